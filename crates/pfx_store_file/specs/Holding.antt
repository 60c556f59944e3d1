-- What is known of a disk by a store that isn't broken, and what survives.
use Rattle.std.specs.Prelude.{◌≡◌, ℕ, ◌+◌, ◌≤◌, List, [], ◌∷◌, ◌++◌, length, take, slice_index, Bool, true, false, not, Some, Ok}
use Rattle.pfx_disk.specs.Disk.{View, IsHonest}
use Rattle.pfx_disk.specs.declared.gates.TheConstants.{GATE_OPEN}
use Rattle.pfx_store_image.specs.declared.head.TheConstants.{SEGMENT_HEAD}
use Rattle.pfx_segment.specs.Segment.{StandAt}
use Rattle.pfx_segment.specs.Frames.{IsFrame}
use Rattle.pfx_store_image.specs.Codec.{Codec}
use Rattle.pfx_store_image.specs.Layout.{area_at, segment_at, segment_end, IsOpenAt, IsClosedAt}
use Rattle.pfx_store_image.specs.Recovery.{recovered}
use Rattle.pfx_store_image.specs.Store.{Parts, Replays, IsStore, next_gate}
use Rattle.pfx_store_file.specs.Checkpoints.{in_progress}
use Rattle.pfx_store_file.specs.Sizes.{HasSizes}
use Rattle.pfx_store_file.specs.declared.places.Places.{Places}
use Rattle.pfx_store_file.specs.declared.progress.Checkpoint.TheVariants.{Writing}

-- the gate at this place stands so: open, or closed
abbrev pub IsGate : Bool → ℕ → List ℕ → Type 0
IsGate true at image = IsOpenAt at image
IsGate false at image = IsClosedAt at image

-- the bytes behind the gate of a frame, with the next frame's closed gate behind them
pub record IsPending (bytes body : List ℕ) : Type 0 where
  pub split : bytes ≡ body ++ 0 ∷ []
  pub frame : IsFrame (GATE_OPEN ∷ body)

-- the bytes behind the gate of a segment that begins with this number and has no frame yet
pub record IsStart {H S : Type 0} (K : Codec H S) (first : ℕ) (bytes : List ℕ) : Type 0 where
  pub long : length bytes ≡ SEGMENT_HEAD
  pub number : K.segment_number (take 8 bytes) ≡ first
  pub closed : slice_index bytes 8 ≡ 0

module _ {H S : Type 0} (K : Codec H S) where
  -- the image is recovered to the state after a prefix of these frames, n of them at least
  pub record Survives (start : S) (all : List (List ℕ)) (n : ℕ) (image : List ℕ) : Type 0 where
    pub count : ℕ
    pub at_least : n ≤ count
    pub at_most : count ≤ length all
    pub state : S
    pub replays : Replays K start (take count all) state
    pub recovered : recovered K image ≡ Ok state

  -- If n of these frames at least survive in each image since some moment, they do so after the call too, in each image
  -- since that moment; there may be a frame more then.
  abbrev pub KeepsAll : S → List (List ℕ) → List (List ℕ) → View → View → Type 0
  KeepsAll start all more old new = (c n : ℕ) → c ≤ old.clock
      → ((image : List ℕ) → old.since c image → Survives start all n image)
      → (image : List ℕ) → new.since c image → Survives start more n image

  module _ (h : H) where
    -- the image is one of the store, and the gates of the checkpoint area and the segment that aren't in use stand as they are known to
    pub record IsKnown (places : Places) (p : Parts S) (s : S) (image : List ℕ) : Type 0 where
      pub store : IsStore K h p s image
      pub area_gate : IsGate places.area_open (area_at (K.layout h) (not p.area)) image
      pub segment_gate : p.turned ≡ false → IsGate places.segment_open (segment_at (K.layout h) (not p.segment)) image

    -- a checkpoint has been begun: so many bytes of the spelling of the state at the turn stand behind the closed gate
    pub record IsBegun (places : Places) (p : Parts S) (done : ℕ) (spelling : List ℕ) (contents : List ℕ) : Type 0 where
      pub turned : p.turned ≡ true
      pub shut : places.area_open ≡ false
      pub read : K.read_state h spelling ≡ Some p.middle
      pub long : length spelling ≡ (K.layout h).body
      pub stand : StandAt (area_at (K.layout h) (not p.area) + 1) (take done spelling) contents

    -- the places are those of the store's parts
    pub record ArePlaces (p : Parts S) (places : Places) : Type 0 where
      pub fits : HasSizes (K.layout h) places.sizes
      pub area : places.area ≡ p.area
      pub segment : places.segment ≡ p.segment
      pub turned : in_progress places.checkpoint ≡ p.turned
      pub gate : places.gate ≡ next_gate K h p
      pub end : places.end ≡ segment_end (K.layout h) p.segment

    -- The disk is honest, each image that it may leave now is one of the store at this state, and the places are the
    -- store's.
    pub record Holds (places : Places) (p : Parts S) (s : S) (spelling : List ℕ) (disk : View) : Type 0 where
      pub honest : IsHonest disk
      pub fits : HasSizes (K.layout h) places.sizes
      pub area : places.area ≡ p.area
      pub segment : places.segment ≡ p.segment
      pub turned : in_progress places.checkpoint ≡ p.turned
      pub gate : places.gate ≡ next_gate K h p
      pub end : places.end ≡ segment_end (K.layout h) p.segment
      pub images : (image : List ℕ) → disk.now image → IsKnown places p s image
      pub begun : (done : ℕ) → places.checkpoint ≡ Writing done → IsBegun places p done spelling disk.contents
