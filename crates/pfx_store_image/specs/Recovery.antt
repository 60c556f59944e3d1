-- What a file is recovered to: the tests in their order, of which the first that fails gives the answer.
use Rattle.std.specs.Prelude.{ℕ, zero, suc, ◌+◌, List, [], ◌∷◌, length, take, drop, nat_lt, ◌==◌, if◌then◌else◌}
use Rattle.std.specs.Prelude.{Bool, true, false, not, Option, Some, None, Result, Ok, Err}
use Rattle.pfx_segment.specs.Frames.{number_4}
use Rattle.pfx_store_image.specs.Layout.{area_at, segment_at, first_gate, segment_end, file_len, is_open, body_at, first_at}
use Rattle.pfx_store_image.specs.Codec.{Codec}
use Rattle.pfx_store_image.specs.Refusals.{Refusal, Damaged, Length, Checkpoint, Segment, Frame, Record}
use Rattle.pfx_store_image.specs.Store.{Parts, single, double}

-- what is found in a file: its header, the parts of it, and the state that it stands for
pub record Found (H S : Type 0) : Type 0 where
  pub head : H
  pub parts : Parts S
  pub state : S

-- that of this header, these parts and this state
abbrev pub found_of : {H S : Type 0} → H → Parts S → S → Found H S
found_of h p s = record { head = h; parts = p; state = s }

-- what follows on an answer that is no refusal
abbrev pub on_ok : {A B E : Type 0} → Result A E → (A → Result B E) → Result B E
on_ok (Ok a) f = f a
on_ok (Err e) f = Err e

-- what follows on a value that is there, if its lack is a refusal
abbrev pub on_some : {A B E : Type 0} → Option A → E → (A → Result B E) → Result B E
on_some (Some a) e f = f a
on_some None e f = Err e

-- The checkpoint area that is taken, of two at these places, open or not, with these numbers: the open one; of two open ones with
-- different numbers the one with the greater.
abbrev pub taken : ℕ → ℕ → Bool → Bool → ℕ → ℕ → Result Bool Refusal
taken at_0 at_1 false false a b = Err (Damaged at_0 Checkpoint)
taken at_0 at_1 true false a b = Ok false
taken at_0 at_1 false true a b = Ok true
taken at_0 at_1 true true a b = if a == b then Err (Damaged at_1 Checkpoint) else Ok (nat_lt a b)

-- The segment that is read first, of two at these places, open or not, with these first numbers: the open one that
-- begins with n, where not both are open and begin alike.
abbrev pub begun : ℕ → ℕ → Bool → Bool → ℕ → ℕ → ℕ → Result Bool Refusal
begun at_0 at_1 false false n a b = Err (Damaged at_0 Segment)
begun at_0 at_1 true false n a b = if a == n then Ok false else Err (Damaged at_0 Segment)
begun at_0 at_1 false true n a b = if b == n then Ok true else Err (Damaged at_0 Segment)
begun at_0 at_1 true true n a b = if a == b then Err (Damaged at_1 Segment)
    else (if a == n then Ok false else (if b == n then Ok true else Err (Damaged at_0 Segment)))

module _ {H S : Type 0} (K : Codec H S) where
  -- The frames from this gate up to the first closed one, and their last number: each ends before the end and has the
  -- next number. The first argument is more than there can be frames.
  abbrev pub walk : ℕ → ℕ → ℕ → ℕ → List ℕ → Result (List (List ℕ) × ℕ) Refusal
  walk zero gate end last image = Err (Damaged gate Frame)
  walk (suc n) gate end last image =
      let len = 15 + number_4 (gate + 1) image in
      let frame = take len (drop gate image) in
      if is_open gate image
      then (if nat_lt (gate + len) end then on_some (K.after last frame) (Damaged gate Frame)
      (λ m. on_ok (walk n (gate + len) end m image) (λ w. Ok (frame ∷ w.0, w.1))) else Err (Damaged gate Frame))
      else Ok ([], last)

  -- the state after the records of these frames, the first of which has this gate
  abbrev pub replay : ℕ → S → List (List ℕ) → Result S Refusal
  replay gate s [] = Ok s
  replay gate s (frame ∷ frames) = on_some (K.apply s frame) (Damaged gate Record) (λ t. replay (gate + length frame) t frames)

  module _ (h : H) (image : List ℕ) where
    -- the first number of a segment
    abbrev pub segment_first : Bool → ℕ
    segment_first b = K.segment_number (first_at (segment_at (K.layout h) b) image)

    -- the number of a checkpoint area
    abbrev pub area_numbered : Bool → ℕ
    area_numbered b = K.area_number (body_at (K.layout h) (area_at (K.layout h) b) image)

    -- the checkpoint area that is taken of this file's two
    abbrev pub area_taken : Result Bool Refusal
    area_taken = taken (area_at (K.layout h) false) (area_at (K.layout h) true) (is_open (area_at (K.layout h) false) image)
        (is_open (area_at (K.layout h) true) image) (area_numbered false) (area_numbered true)

    -- the segment that is read first of this file's two, if it is to begin with n
    abbrev pub segment_begun : ℕ → Result Bool Refusal
    segment_begun n = begun (segment_at (K.layout h) false) (segment_at (K.layout h) true)
        (is_open (segment_at (K.layout h) false) image) (is_open (segment_at (K.layout h) true) image) n
        (segment_first false) (segment_first true)

    -- the frames of a segment, after this number
    abbrev pub walk_segment : ℕ → Bool → Result (List (List ℕ) × ℕ) Refusal
    walk_segment last b = walk (1 + file_len (K.layout h)) (first_gate (K.layout h) b) (segment_end (K.layout h) b) last image

    -- the segment is open and goes on after this number
    abbrev pub follows : ℕ → Bool → Bool
    follows last b = if is_open (segment_at (K.layout h) b) image then (segment_first b == last + 1) else false

    -- the segment is closed, or begins below the number after this one
    abbrev pub is_passed : ℕ → Bool → Bool
    is_passed last b = if is_open (segment_at (K.layout h) b) image then nat_lt (segment_first b) (last + 1) else true

    -- the records of one segment, the heads of which are right
    unfoldable pub from_one : Bool → S → Bool → List (List ℕ) → ℕ → Result (Found H S) Refusal
    from_one c s b frames last = on_ok (replay (first_gate (K.layout h) b) s frames)
        (λ t. if is_passed last (not b) then Ok (found_of h (single c s b frames) t)
        else Err (Damaged (segment_at (K.layout h) (not b)) Segment))

    -- the records of two segments, the heads of which are right
    unfoldable pub from_two : Bool → S → Bool → List (List ℕ) → List (List ℕ) → Result (Found H S) Refusal
    from_two c s b before frames = on_ok (replay (first_gate (K.layout h) b) s before)
        (λ middle. on_ok (replay (first_gate (K.layout h) (not b)) middle frames)
        (λ t. Ok (found_of h (double c s b before middle frames) t)))

    -- the heads of the other segment, if it goes on after the frames of the first
    unfoldable pub from_frames : Bool → S → Bool → List (List ℕ) → ℕ → Result (Found H S) Refusal
    from_frames c s b frames last = if follows last (not b) then on_ok (walk_segment last (not b)) (λ w. from_two c s b frames w.0)
        else from_one c s b frames last

    -- the heads of the segment that is read first
    unfoldable pub from_segment : Bool → S → Bool → Result (Found H S) Refusal
    from_segment c s b = on_ok (walk_segment (K.number s) b) (λ w. from_frames c s b w.0 w.1)

    -- the segments, if this checkpoint area has this state
    unfoldable pub from_state : Bool → S → Result (Found H S) Refusal
    from_state c s = on_ok (segment_begun (K.number s + 1)) (λ b. from_segment c s b)

    -- the checkpoint area that is taken
    unfoldable pub from_area : Bool → Result (Found H S) Refusal
    from_area c =
        on_some (K.read_state h (body_at (K.layout h) (area_at (K.layout h) c) image)) (Damaged (area_at (K.layout h) c) Checkpoint)
        (λ s. from_state c s)

    -- the length, if the file has this header
    unfoldable pub from_head : Result (Found H S) Refusal
    from_head = if length image == file_len (K.layout h) then on_ok area_taken (λ c. from_area c) else Err (Damaged (length image) Length)

  -- what is found in a file
  unfoldable pub found : List ℕ → Result (Found H S) Refusal
  found image = on_ok (K.read_head image) (λ h. from_head h image)

  -- the state that a file stands for
  unfoldable pub recovered : List ℕ → Result S Refusal
  recovered image = on_ok (found image) (λ f. Ok f.state)
