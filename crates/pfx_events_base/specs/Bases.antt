-- The checkpoint that a store's file is recovered from.
use Rattle.std.specs.Prelude.{◌≡◌, ◌≤◌, ◌<◌, ◌+◌, ◌++◌, ◌∷◌, [], ℕ, List, length, true, Some, Ok}
use Rattle.pfx_events_acts.specs.Files.{IsFile, IsWhole}
use Rattle.pfx_disk.specs.CallsMade.{IsAfter, HasMade, HasKeptTo}
use Rattle.pfx_disk.specs.Disk.{View}
use Rattle.pfx_disk.specs.Stop.{Act, contents_after, Left}
use Rattle.pfx_disk.specs.declared.gates.TheConstants.{GATE_OPEN}
use Rattle.pfx_store_image.specs.Codec.{Codec}
use Rattle.pfx_store_image.specs.Recovery.{Found, found}
use Rattle.pfx_segment.specs.Frames.{IsFrame}
use Rattle.pfx_store_image.specs.declared.head.TheConstants.{SEGMENT_HEAD}
use Rattle.pfx_store_file.specs.Files.{File}
use Rattle.pfx_store_file.specs.Holding.{IsStart}

module _ {H S : Type 0} (K : Codec H S) where
  -- the image is recovered, from a checkpoint of at most this number
  pub record IsBased (most : ℕ) (image : List ℕ) : Type 0 where
    pub file : Found H S
    pub found : found K image ≡ Ok file
    pub low : K.number file.parts.base ≤ most

  -- If each image since some moment is recovered from a checkpoint of at most this number, each image since then is so after the call too.
  abbrev pub KeepsBase : ℕ → View → View → Type 0
  KeepsBase most old new = (c : ℕ) → c ≤ old.clock
      → ((image : List ℕ) → old.since c image → IsBased most image)
      → (image : List ℕ) → new.since c image → IsBased most image

  -- Calls of a disk, one after the other: at each moment of them an image is recovered from a checkpoint of at most this number, or any
  -- greater one; and once all of them were made this is so.
  pub record HasBase (number : ℕ) (acts : List Act) (old new : View) (made : Type 0) : Type 0 where
    pub during : HasKeptTo acts old new → (most : ℕ) → number ≤ most → KeepsBase most old new
    pub then : HasMade acts old new → made

  module _ (f : File H S) where
    -- the number at which the last turn was made: that of the checkpoint in progress, or of the one in use if none is
    abbrev pub turn_number : ℕ
    turn_number = K.number f.parts.middle

    -- the body of the checkpoint in progress, if there is one, is spelled so
    abbrev pub Spells : List ℕ → Type 0
    Spells spelling = f.parts.turned ≡ true → (K.read_state f.head spelling ≡ Some f.parts.middle)
        × (length spelling ≡ (K.layout f.head).body)

    -- The disk is one after some calls: a read gives this file at this state, with what was written of the checkpoint in progress, and each
    -- image that a stop may leave is one of it.
    pub record IsOn (spelling : List ℕ) (s : S) (disk : View) : Type 0 where
      pub start : List ℕ
      pub done : List Act
      pub after : IsAfter disk start done
      pub read : IsWhole K spelling s f (contents_after start done)
      pub each : (image : List ℕ) → Left start done image → IsFile K s f image

    -- A frame leads from one state to another and fits into an empty segment, and these bytes begin a segment behind the one state.
    pub record IsNextFrame (s : S) (body start : List ℕ) (t : S) : Type 0 where
      pub frame : IsFrame (GATE_OPEN ∷ body)
      pub leads : K.apply s (GATE_OPEN ∷ body) ≡ Some t
      pub small : length (body ++ 0 ∷ []) + SEGMENT_HEAD < (K.layout f.head).segment
      pub starts : IsStart K (K.number s + 1) start
