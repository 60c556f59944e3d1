-- A codec of small files. A header is a byte 1 and a byte for the length of a segment past ten bytes. A state is a number
-- and a sum; a checkpoint area's body is the two of them in a byte each, the sum below 100. A frame's number stands at the place of
-- its first command's, and its one record is a byte that isn't 0 and is added to the sum.
use Rattle.std.specs.Prelude.{ℕ, ◌+◌, nat_lt, ◌==◌, if◌then◌else◌, List, [], ◌∷◌, slice_index, Option, Some, None, Result, Ok, Err}
use Rattle.std.proofs.Common.{arith}
use Rattle.pfx_store_image.specs.Layout.{Layout}
use Rattle.pfx_store_image.specs.Codec.{Codec}
use Rattle.pfx_store_image.specs.Refusals.{Refusal, NotAStore, WrongVersion}

-- the header at the front of these bytes
abbrev pub toy_head : List ℕ → Result ℕ Refusal
toy_head [] = Err NotAStore
toy_head (version ∷ []) = Err NotAStore
toy_head (version ∷ room ∷ bytes) = if version == 1 then Ok room else Err (WrongVersion version)

-- a header of two bytes, checkpoint areas of two behind their gates, and segments of ten and the room
abbrev pub toy_layout : ℕ → Layout
toy_layout room = record { head = 2; body = 2; segment = 10 + room; room = omega arith }

-- a number, and a sum below 100
abbrev pub toy_state : ℕ → List ℕ → Option (List ℕ)
toy_state room body = if nat_lt (slice_index body 1) 100 then Some (slice_index body 0 ∷ slice_index body 1 ∷ []) else None

-- a frame has one command, of the next number
abbrev pub toy_after : ℕ → List ℕ → Option ℕ
toy_after n frame = if slice_index frame 5 == n + 1 then Some (n + 1) else None

-- its byte, if it isn't 0, is added to the sum
abbrev pub toy_apply : List ℕ → List ℕ → Option (List ℕ)
toy_apply s frame = if slice_index frame 5 == slice_index s 0 + 1
    then (if slice_index frame 15 == 0 then None else Some ((slice_index s 0 + 1) ∷ (slice_index s 1 + slice_index frame 15) ∷ []))
    else None

-- the codec of these
abbrev pub toy : Codec ℕ (List ℕ)
toy = record {
  read_head = toy_head;
  layout = toy_layout;
  area_number = λ body. slice_index body 0;
  read_state = toy_state;
  number = λ s. slice_index s 0;
  segment_number = λ bytes. slice_index bytes 0;
  after = toy_after;
  apply = toy_apply;
}
