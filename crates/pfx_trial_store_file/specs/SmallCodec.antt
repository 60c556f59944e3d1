-- A codec of small files, for tests. A header is a byte 1 and a byte for the length of a segment past ten bytes. A state
-- is a number below 200 and a sum below 100; a checkpoint area's body is the two of them in a byte each, and six bytes more. A
-- frame's number stands at the place of its first command's, and its one record is a byte that isn't 0 and is added to
-- the sum.
use Rattle.std.specs.Prelude.{ℕ, ◌+◌, ◌<◌, nat_lt, ◌==◌, if◌then◌else◌, List, slice_index, Option, Some, None}
use Rattle.std.proofs.Common.{arith}
use Rattle.pfx_store_image.specs.Layout.{Layout}
use Rattle.pfx_store_image.specs.Codec.{Codec}
use Rattle.pfx_store_image.specs.ToyCodec.{toy_head}

-- a header of two bytes, checkpoint areas of eight behind their gates, and segments of ten and the room
abbrev pub small_layout : ℕ → Layout
small_layout room = record { head = 2; body = 8; segment = 10 + room; room = omega arith }

-- the state, if its number and its sum are small enough
abbrev pub small : ℕ → ℕ → Option (ℕ × ℕ)
small number sum = if nat_lt number 200 then (if nat_lt sum 100 then Some (number, sum) else None) else None

-- the state in a checkpoint area's body
abbrev pub small_state : ℕ → List ℕ → Option (ℕ × ℕ)
small_state room body = small (slice_index body 0) (slice_index body 1)

-- a frame has one command, of the next number
abbrev pub small_after : ℕ → List ℕ → Option ℕ
small_after n frame = if slice_index frame 5 == n + 1 then (if nat_lt (n + 1) 200 then Some (n + 1) else None) else None

-- its byte, if it isn't 0, is added to the sum
abbrev pub small_apply : ℕ × ℕ → List ℕ → Option (ℕ × ℕ)
small_apply s frame = if slice_index frame 5 == s.0 + 1
    then (if slice_index frame 15 == 0 then None else small (s.0 + 1) (s.1 + slice_index frame 15))
    else None

-- a number and a sum that are small enough
abbrev pub is_small : ℕ → ℕ × ℕ → Type 0
is_small room s = (s.0 < 200) × (s.1 < 100)

-- the codec of these
abbrev pub small_codec : Codec ℕ (ℕ × ℕ)
small_codec = record {
  read_head = toy_head;
  layout = small_layout;
  area_number = λ body. slice_index body 0;
  read_state = small_state;
  number = λ s. s.0;
  segment_number = λ bytes. slice_index bytes 0;
  after = small_after;
  apply = small_apply;
}
