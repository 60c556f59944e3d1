-- Worked rows: files of the codec of small files. The header has two bytes, a checkpoint area three, a segment 32, a frame 16; the checkpoint
-- areas stand at 2 and 5, the segments at 8 and 40, and their first frames at 17 and 49.
use Rattle.std.proofs.Common.{◌≡◌, ℕ, ◌-◌, List, [], ◌∷◌, ◌++◌, length, replicate, refl, sym, ◌∙◌, subst, ◌≤◌, arith, true, false, Ok}
use Rattle.pfx_events_base.specs.Bases.{IsBased, turn_number}
use Rattle.pfx_store_image.proofs.Answers.{ok_same}
use Rattle.pfx_store_image.specs.Recovery.{found, found_of, from_head, from_area, from_state, from_segment, from_frames, from_one, from_two}
use Rattle.pfx_store_image.specs.Store.{single, double}
use Rattle.pfx_store_image.specs.ToyCodec.{toy}
use Rattle.pfx_store_file.specs.Acts.{ended_file, turned_file}
use Rattle.pfx_store_file.specs.Files.{File}
use Rattle.pfx_store_file.specs.declared.progress.Checkpoint.TheVariants.{Ended}

abbrev frame : ℕ → ℕ → List ℕ
frame number added = 195 ∷ 1 ∷ 0 ∷ 0 ∷ 0 ∷ number ∷ 0 ∷ 0 ∷ 0 ∷ 0 ∷ 0 ∷ 0 ∷ 0 ∷ 1 ∷ 0 ∷ added ∷ []

abbrev segment : ℕ → ℕ → List ℕ → List ℕ
segment gate first frames = gate ∷ first ∷ 0 ∷ 0 ∷ 0 ∷ 0 ∷ 0 ∷ 0 ∷ 0 ∷ [] ++ frames ++ replicate (23 - length frames) 0

abbrev image : List ℕ → List ℕ → List ℕ → List ℕ → List ℕ
image area_0 area_1 segment_0 segment_1 = (1 ∷ 22 ∷ []) ++ area_0 ++ area_1 ++ segment_0 ++ segment_1

-- Turned at number 5, with a checkpoint of number 4 in use: the segment that was left is read behind it.
turned_image : found toy (image (195 ∷ 4 ∷ 7 ∷ []) (0 ∷ 0 ∷ 0 ∷ []) (segment 195 5 (frame 5 1)) (segment 195 6 [])) ≡ Ok (found_of 22 (double false (4 ∷ 7 ∷ []) false (frame 5 1 ∷ []) (5 ∷ 8 ∷ []) []) (5 ∷ 8 ∷ []))
unfolding found from_head from_area from_state from_segment from_frames from_one from_two
turned_image = refl

turned_base : IsBased toy 4 (image (195 ∷ 4 ∷ 7 ∷ []) (0 ∷ 0 ∷ 0 ∷ []) (segment 195 5 (frame 5 1)) (segment 195 6 []))
turned_base = record { file = _; found = turned_image; low = omega arith }

-- with its checkpoint whole it is recovered from that of number 5, and what was left isn't read
ended_image : found toy (image (195 ∷ 4 ∷ 7 ∷ []) (195 ∷ 5 ∷ 8 ∷ []) (segment 195 5 (frame 5 1)) (segment 195 6 [])) ≡ Ok (found_of 22 (single true (5 ∷ 8 ∷ []) true []) (5 ∷ 8 ∷ []))
unfolding found from_head from_area from_state from_segment from_frames from_one from_two
ended_image = refl

ended_base : IsBased toy 5 (image (195 ∷ 4 ∷ 7 ∷ []) (195 ∷ 5 ∷ 8 ∷ []) (segment 195 5 (frame 5 1)) (segment 195 6 []))
ended_base = record { file = _; found = ended_image; low = omega arith }

ended_no_lower : ¬ IsBased toy 4 (image (195 ∷ 4 ∷ 7 ∷ []) (195 ∷ 5 ∷ 8 ∷ []) (segment 195 5 (frame 5 1)) (segment 195 6 []))
ended_no_lower is =
    let same = ok_same _ _ (sym ended_image ∙ is.found) in
    let low = subst (λ f. toy.number f.parts.base ≤ 4) (sym same) is.low in
    omega (arith, low)

-- a file whose first segment has the frame of number 5, behind a checkpoint of number 4
abbrev file : File ℕ (List ℕ)
file = record { head = 22; parts = single false (4 ∷ 7 ∷ []) false (frame 5 1 ∷ []); area_open = false; segment_open = false; checkpoint = Ended }

-- that checkpoint is of its last turn; once turned it is turned at number 5, before the checkpoint of that has ended as after
first_turn : turn_number toy file ≡ 4
first_turn = refl

next_turn : turn_number toy (turned_file toy file (5 ∷ 8 ∷ [])) ≡ 5
next_turn = refl

next_base : toy.number (turned_file toy file (5 ∷ 8 ∷ [])).parts.base ≡ 4
next_base = refl

ended_turn : turn_number toy (ended_file toy (turned_file toy file (5 ∷ 8 ∷ []))) ≡ 5
ended_turn = refl

ended_number : toy.number (ended_file toy (turned_file toy file (5 ∷ 8 ∷ []))).parts.base ≡ 5
ended_number = refl
