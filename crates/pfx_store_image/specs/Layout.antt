-- Where the parts of a store's file lie: a header, two checkpoint areas, two segments. Of the two checkpoint areas and of the two segments
-- a Bool names the second if it is true.
use Rattle.std.specs.Prelude.{◌≡◌, ◌≢◌, ℕ, ◌+◌, ◌*◌, ◌<◌, List, take, drop, slice_index, ◌==◌, Bool, true, false}
use Rattle.pfx_disk.specs.declared.gates.TheConstants.{GATE_OPEN}
use Rattle.pfx_store_image.specs.declared.head.TheConstants.{SEGMENT_HEAD}

-- how many bytes the header has, a checkpoint area behind its gate, and a segment, in which a gate, a number and the gate of a
-- first frame have room
pub record Layout : Type 0 where
  pub head : ℕ
  pub body : ℕ
  pub segment : ℕ
  pub room : SEGMENT_HEAD < segment

-- where the first checkpoint area begins, and the second
abbrev pub area_at : Layout → Bool → ℕ
area_at L false = L.head
area_at L true = L.head + (1 + L.body)

-- where the first segment begins, and the second
abbrev pub segment_at : Layout → Bool → ℕ
segment_at L false = L.head + 2 * (1 + L.body)
segment_at L true = L.head + 2 * (1 + L.body) + L.segment

-- where the gate of a segment's first frame stands
abbrev pub first_gate : Layout → Bool → ℕ
first_gate L b = segment_at L b + SEGMENT_HEAD

-- where a segment ends
abbrev pub segment_end : Layout → Bool → ℕ
segment_end L b = segment_at L b + L.segment

-- how long a file of this layout is
abbrev pub file_len : Layout → ℕ
file_len L = L.head + 2 * (1 + L.body) + 2 * L.segment

-- the gate at this place is open
abbrev pub IsOpenAt : ℕ → List ℕ → Type 0
IsOpenAt at image = slice_index image at ≡ GATE_OPEN

-- the gate at this place is closed
abbrev pub IsClosedAt : ℕ → List ℕ → Type 0
IsClosedAt at image = slice_index image at ≢ GATE_OPEN

-- whether it is open
abbrev pub is_open : ℕ → List ℕ → Bool
is_open at image = slice_index image at == GATE_OPEN

-- the bytes behind the gate of a checkpoint area at this place
abbrev pub body_at : Layout → ℕ → List ℕ → List ℕ
body_at L at image = take L.body (drop (at + 1) image)

-- the eight bytes behind the gate of a segment at this place
abbrev pub first_at : ℕ → List ℕ → List ℕ
first_at at image = take 8 (drop (at + 1) image)
