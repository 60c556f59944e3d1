-- Worked files: what the codec of small files recovers of them. A checkpoint area has three bytes, a segment 42, a frame 16; the checkpoint areas
-- stand at 2 and 5, the segments at 8 and 50, and their first frames at 17 and 59.
use Rattle.std.proofs.Common.{◌≡◌, ℕ, ◌-◌, List, [], ◌∷◌, ◌++◌, length, replicate, refl, true, false, Ok, Err}
use Rattle.pfx_store_image.specs.NewFile.{new_file}
use Rattle.pfx_store_image.specs.Refusals.{NotAStore, WrongVersion, Damaged, Length, Checkpoint, Segment, Frame, Record}
use Rattle.pfx_store_image.specs.Recovery.{found, found_of, recovered, from_head, from_area, from_state, from_segment, from_frames, from_one, from_two}
use Rattle.pfx_store_image.specs.Store.{single, double}
use Rattle.pfx_store_image.specs.ToyCodec.{toy, toy_layout}

abbrev header : List ℕ
header = 1 ∷ 32 ∷ []

abbrev area : ℕ → ℕ → ℕ → List ℕ
area gate number sum = gate ∷ number ∷ sum ∷ []

abbrev frame : ℕ → ℕ → ℕ → List ℕ
frame gate number record_byte = gate ∷ 1 ∷ 0 ∷ 0 ∷ 0 ∷ number ∷ 0 ∷ 0 ∷ 0 ∷ 0 ∷ 0 ∷ 0 ∷ 0 ∷ 1 ∷ 0 ∷ record_byte ∷ []

abbrev segment : ℕ → ℕ → List ℕ → List ℕ
segment gate first frames = gate ∷ first ∷ 0 ∷ 0 ∷ 0 ∷ 0 ∷ 0 ∷ 0 ∷ 0 ∷ [] ++ frames ++ replicate (33 - length frames) 0

abbrev none : List ℕ
none = segment 0 0 []

abbrev file : List ℕ → List ℕ → List ℕ → List ℕ → List ℕ
file area_0 area_1 segment_0 segment_1 = header ++ area_0 ++ area_1 ++ segment_0 ++ segment_1

-- no header
no_bytes : recovered toy ([]) ≡ Err NotAStore
unfolding recovered found from_head from_area from_state from_segment from_frames from_one from_two
no_bytes = refl

-- a header that is cut off
short_header : recovered toy (1 ∷ []) ≡ Err NotAStore
unfolding recovered found from_head from_area from_state from_segment from_frames from_one from_two
short_header = refl

-- another version
other_version : recovered toy (2 ∷ 32 ∷ []) ≡ Err (WrongVersion 2)
unfolding recovered found from_head from_area from_state from_segment from_frames from_one from_two
other_version = refl

-- a byte too many
long_file : recovered toy (file (area 195 0 0) (area 0 0 0) (segment 195 1 []) none ++ 0 ∷ []) ≡ Err (Damaged 93 Length)
unfolding recovered found from_head from_area from_state from_segment from_frames from_one from_two
long_file = refl

-- a file that ends behind its header
cut_file : recovered toy (header) ≡ Err (Damaged 2 Length)
unfolding recovered found from_head from_area from_state from_segment from_frames from_one from_two
cut_file = refl

-- a new file
new : recovered toy (file (area 195 0 0) (area 0 0 0) (segment 195 1 []) none) ≡ Ok (0 ∷ 0 ∷ [])
unfolding recovered found from_head from_area from_state from_segment from_frames from_one from_two
new = refl

-- no open checkpoint area
no_area : recovered toy (file (area 0 0 0) (area 0 0 0) (segment 195 1 []) none) ≡ Err (Damaged 2 Checkpoint)
unfolding recovered found from_head from_area from_state from_segment from_frames from_one from_two
no_area = refl

-- a gate that isn't 195 is closed
almost_open : recovered toy (file (area 194 0 0) (area 0 0 0) (segment 195 1 []) none) ≡ Err (Damaged 2 Checkpoint)
unfolding recovered found from_head from_area from_state from_segment from_frames from_one from_two
almost_open = refl

-- two open checkpoint areas with one number
equal_areas : recovered toy (file (area 195 4 0) (area 195 4 0) (segment 195 5 []) none) ≡ Err (Damaged 5 Checkpoint)
unfolding recovered found from_head from_area from_state from_segment from_frames from_one from_two
equal_areas = refl

-- of two open checkpoint areas the one with the greater number, wherever it stands; the other isn't examined
greater_area : recovered toy (file (area 195 3 200) (area 195 4 7) (segment 195 5 []) none) ≡ Ok (4 ∷ 7 ∷ [])
unfolding recovered found from_head from_area from_state from_segment from_frames from_one from_two
greater_area = refl

greater_first : recovered toy (file (area 195 4 7) (area 195 3 200) (segment 195 5 []) none) ≡ Ok (4 ∷ 7 ∷ [])
unfolding recovered found from_head from_area from_state from_segment from_frames from_one from_two
greater_first = refl

-- a checkpoint area taken that holds no state
bad_area : recovered toy (file (area 195 3 7) (area 195 4 200) (segment 195 5 []) none) ≡ Err (Damaged 5 Checkpoint)
unfolding recovered found from_head from_area from_state from_segment from_frames from_one from_two
bad_area = refl

-- two open segments that begin alike
equal_segments : recovered toy (file (area 195 0 0) (area 0 0 0) (segment 195 1 []) (segment 195 1 [])) ≡ Err (Damaged 50 Segment)
unfolding recovered found from_head from_area from_state from_segment from_frames from_one from_two
equal_segments = refl

-- even if neither is to be read
equal_others : recovered toy (file (area 195 0 0) (area 0 0 0) (segment 195 9 []) (segment 195 9 [])) ≡ Err (Damaged 50 Segment)
unfolding recovered found from_head from_area from_state from_segment from_frames from_one from_two
equal_others = refl

-- no open segment that begins behind the checkpoint area's number
no_segment : recovered toy (file (area 195 0 0) (area 0 0 0) (segment 195 2 []) (segment 0 1 [])) ≡ Err (Damaged 8 Segment)
unfolding recovered found from_head from_area from_state from_segment from_frames from_one from_two
no_segment = refl

-- frames up to the first closed gate
frames : recovered toy (file (area 195 0 0) (area 0 0 0) (segment 195 1 (frame 195 1 5 ++ frame 195 2 6)) none) ≡ Ok (2 ∷ 11 ∷ [])
unfolding recovered found from_head from_area from_state from_segment from_frames from_one from_two
frames = refl

closed_frame : recovered toy (file (area 195 0 0) (area 0 0 0) (segment 195 1 (frame 195 1 5 ++ frame 0 2 6)) none) ≡ Ok (1 ∷ 5 ∷ [])
unfolding recovered found from_head from_area from_state from_segment from_frames from_one from_two
closed_frame = refl

-- a frame that ends with its segment has no room for the next gate
no_room : recovered toy (file (area 195 0 0) (area 0 0 0) (segment 195 1 (195 ∷ 18 ∷ [])) none) ≡ Err (Damaged 17 Frame)
unfolding recovered found from_head from_area from_state from_segment from_frames from_one from_two
no_room = refl

-- the longest frame that has it
room : recovered toy (file (area 195 0 0) (area 0 0 0) (segment 195 1 (195 ∷ 17 ∷ 0 ∷ 0 ∷ 0 ∷ 1 ∷ 0 ∷ 0 ∷ 0 ∷ 0 ∷ 0 ∷ 0 ∷ 0 ∷ 1 ∷ 0 ∷ 5 ∷ [])) none) ≡ Ok (1 ∷ 5 ∷ [])
unfolding recovered found from_head from_area from_state from_segment from_frames from_one from_two
room = refl

-- a frame with another number than the next
wrong_number : recovered toy (file (area 195 0 0) (area 0 0 0) (segment 195 1 (frame 195 1 5 ++ frame 195 1 6)) none) ≡ Err (Damaged 33 Frame)
unfolding recovered found from_head from_area from_state from_segment from_frames from_one from_two
wrong_number = refl

-- a record that is refused
bad_record : recovered toy (file (area 195 0 0) (area 0 0 0) (segment 195 1 (frame 195 1 5 ++ frame 195 2 0)) none) ≡ Err (Damaged 33 Record)
unfolding recovered found from_head from_area from_state from_segment from_frames from_one from_two
bad_record = refl

-- the heads of all frames come before any record, those of the other segment too
heads_first : recovered toy (file (area 195 0 0) (area 0 0 0) (segment 195 1 (frame 195 1 0 ++ frame 195 9 6)) none) ≡ Err (Damaged 33 Frame)
unfolding recovered found from_head from_area from_state from_segment from_frames from_one from_two
heads_first = refl

other_heads_first : recovered toy (file (area 195 0 0) (area 0 0 0) (segment 195 1 (frame 195 1 0)) (segment 195 2 (frame 195 9 6))) ≡ Err (Damaged 59 Frame)
unfolding recovered found from_head from_area from_state from_segment from_frames from_one from_two
other_heads_first = refl

-- the records of the first segment come before those of the other
records_in_order : recovered toy (file (area 195 0 0) (area 0 0 0) (segment 195 1 (frame 195 1 0)) (segment 195 2 (frame 195 2 0))) ≡ Err (Damaged 17 Record)
unfolding recovered found from_head from_area from_state from_segment from_frames from_one from_two
records_in_order = refl

other_record : recovered toy (file (area 195 0 0) (area 0 0 0) (segment 195 1 (frame 195 1 5)) (segment 195 2 (frame 195 2 0))) ≡ Err (Damaged 59 Record)
unfolding recovered found from_head from_area from_state from_segment from_frames from_one from_two
other_record = refl

-- the other segment goes on behind the first, whichever stands first
two_segments : recovered toy (file (area 195 0 0) (area 0 0 0) (segment 195 1 (frame 195 1 5)) (segment 195 2 (frame 195 2 6))) ≡ Ok (2 ∷ 11 ∷ [])
unfolding recovered found from_head from_area from_state from_segment from_frames from_one from_two
two_segments = refl

two_turned_round : recovered toy (file (area 195 0 0) (area 0 0 0) (segment 195 2 (frame 195 2 6)) (segment 195 1 (frame 195 1 5))) ≡ Ok (2 ∷ 11 ∷ [])
unfolding recovered found from_head from_area from_state from_segment from_frames from_one from_two
two_turned_round = refl

-- a segment that began before is passed over, and its frames aren't looked at
passed_over : recovered toy (file (area 195 4 7) (area 0 0 0) (segment 195 5 []) (segment 195 3 (frame 195 9 0))) ≡ Ok (4 ∷ 7 ∷ [])
unfolding recovered found from_head from_area from_state from_segment from_frames from_one from_two
passed_over = refl

-- one that would begin later isn't
begins_later : recovered toy (file (area 195 4 7) (area 0 0 0) (segment 195 5 []) (segment 195 6 [])) ≡ Err (Damaged 50 Segment)
unfolding recovered found from_head from_area from_state from_segment from_frames from_one from_two
begins_later = refl

-- but records are tested before it
records_before_rest : recovered toy (file (area 195 0 0) (area 0 0 0) (segment 195 1 (frame 195 1 0)) (segment 195 3 [])) ≡ Err (Damaged 17 Record)
unfolding recovered found from_head from_area from_state from_segment from_frames from_one from_two
records_before_rest = refl

-- what is found: one segment, and two
found_one : found toy (file (area 195 0 0) (area 0 0 0) (segment 195 1 (frame 195 1 5)) none) ≡ Ok (found_of 32 (single false (0 ∷ 0 ∷ []) false (frame 195 1 5 ∷ [])) (1 ∷ 5 ∷ []))
unfolding found from_head from_area from_state from_segment from_frames from_one from_two
found_one = refl

found_two : found toy (file (area 0 0 0) (area 195 0 0) (segment 195 2 (frame 195 2 6)) (segment 195 1 (frame 195 1 5))) ≡ Ok (found_of 32 (double true (0 ∷ 0 ∷ []) true (frame 195 1 5 ∷ []) (1 ∷ 5 ∷ []) (frame 195 2 6 ∷ [])) (2 ∷ 11 ∷ []))
unfolding found from_head from_area from_state from_segment from_frames from_one from_two
found_two = refl

-- the bytes of a new file
new_bytes : new_file (toy_layout 32) header (0 ∷ 0 ∷ []) (1 ∷ 0 ∷ 0 ∷ 0 ∷ 0 ∷ 0 ∷ 0 ∷ 0 ∷ []) ≡ file (area 195 0 0) (area 0 0 0) (segment 195 1 []) none
new_bytes = refl
