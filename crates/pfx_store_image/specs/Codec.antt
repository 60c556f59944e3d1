-- What the bytes of the parts of a file stand for. Headers are of the type H, states of the type S.
use Rattle.std.specs.Prelude.{◌≡◌, ℕ, ◌<◌, ◌≤◌, List, length, take, Option, Some, Result, Ok, Err}
use Rattle.pfx_store_image.specs.Layout.{Layout}
use Rattle.pfx_store_image.specs.Refusals.{Refusal, IsOfHeader}

-- what the bytes of a header, a checkpoint area, a segment and a frame stand for
pub record Codec (H S : Type 0) : Type 0 where
  -- the header that stands at the front of these bytes, or why there is none
  pub read_head : List ℕ → Result H Refusal
  -- where the parts of a file with this header lie
  pub layout : H → Layout
  -- the number in a checkpoint area's body, which isn't tested
  pub area_number : List ℕ → ℕ
  -- the state that a checkpoint area's body stands for, if it passes its tests
  pub read_state : H → List ℕ → Option S
  -- the number of the last command that a state has seen
  pub number : S → ℕ
  -- the number in the eight bytes behind a segment's gate
  pub segment_number : List ℕ → ℕ
  -- the number of a frame's last command, if the frame's head is right after this number
  pub after : ℕ → List ℕ → Option ℕ
  -- the state after a frame's records, if they are right at this state
  pub apply : S → List ℕ → Option S

-- what recovery needs of a codec
pub record Laws {H S : Type 0} (K : Codec H S) : Type 0 where
  -- bytes with a header are no fewer than it has
  pub head_whole : (h : H) (bytes : List ℕ) → K.read_head bytes ≡ Ok h → (K.layout h).head ≤ length bytes
  -- the header is read from its own bytes alone
  pub head_alone : (h : H) (bytes other : List ℕ) → K.read_head bytes ≡ Ok h → take (K.layout h).head other ≡ take (K.layout h).head bytes
      → K.read_head other ≡ Ok h
  -- what is refused of a header is refused as one
  pub head_refused : (bytes : List ℕ) (refusal : Refusal) → K.read_head bytes ≡ Err refusal → IsOfHeader refusal
  -- the number in a checkpoint area is that of its state
  pub area_number : (h : H) (bytes : List ℕ) (s : S) → K.read_state h bytes ≡ Some s → K.area_number bytes ≡ K.number s
  -- a frame has a command at least
  pub later : (n : ℕ) (frame : List ℕ) (m : ℕ) → K.after n frame ≡ Some m → n < m
  -- a frame whose records are right at a state has a right head after its number, and leads to the number of the state after it
  pub after : (s : S) (frame : List ℕ) (t : S) → K.apply s frame ≡ Some t → K.after (K.number s) frame ≡ Some (K.number t)
