-- Which of two checkpoint areas, and of two segments, was chosen.
use Rattle.std.specs.Prelude.{◌≡◌, ℕ, List, Bool, not, if◌then◌else◌, Result, Ok}
use Rattle.pfx_store_image.specs.Codec.{Codec}
use Rattle.pfx_store_image.specs.Layout.{area_at, segment_at, is_open, body_at}
use Rattle.pfx_store_image.specs.Recovery.{segment_first, on_some}
use Rattle.pfx_store_image.specs.Refusals.{Refusal, Damaged, Checkpoint}
use Rattle.pfx_store_recover.specs.declared.choosing.Choice.{Choice}
use Rattle.pfx_store_recover.specs.declared.choosing.Numbered.{Numbered}
use Rattle.pfx_store_recover.specs.declared.gates.GateHead.{GateHead}

-- the gate, which stands here, with this number after it
abbrev pub with_number : GateHead → ℕ → ℕ → Numbered
with_number head place n = record { at = place; «open» = head.open; number = n }

-- the second was chosen, or the first, and of the other it says how its gate stands and its number
pub record IsChoice (is_second : Bool) (low high : Numbered) (choice : Choice) : Type 0 where
  pub second : choice.second ≡ is_second
  pub open_other : choice.other_open ≡ (if is_second then low.open else high.open)
  pub number : choice.other_number ≡ (if is_second then low.number else high.number)

module _ {H S : Type 0} (K : Codec H S) (h : H) (bytes : List ℕ) where
  -- it is the checkpoint area that was to be chosen, and the other's gate stands so
  pub record IsArea (choice : Choice) (read : Result Bool Refusal) : Type 0 where
    pub chosen : read ≡ Ok choice.second
    pub other : choice.other_open ≡ is_open (area_at (K.layout h) (not choice.second)) bytes

  -- the state in this checkpoint area
  abbrev pub area_state : Bool → Result S Refusal
  area_state second =
      on_some (K.read_state h (body_at (K.layout h) (area_at (K.layout h) second) bytes))
      (Damaged (area_at (K.layout h) second) Checkpoint) (λ s. Ok s)

  -- it is the segment that was to be chosen, the other's gate stands so, and the other has this number
  pub record IsSegment (choice : Choice) (read : Result Bool Refusal) : Type 0 where
    pub chosen : read ≡ Ok choice.second
    pub other : choice.other_open ≡ is_open (segment_at (K.layout h) (not choice.second)) bytes
    pub number : choice.other_number ≡ segment_first K h bytes (not choice.second)
