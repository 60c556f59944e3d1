-- Bytes that are frames, one behind the other.
use Rattle.std.proofs.Common.{◌≡◌, ◌≢◌, ◌+◌, ◌∙◌, ℕ, List, [], ◌∷◌, ◌++◌, length, get_or, refl, sym, ap, arith, append_assoc, length-append}
use Rattle.std.specs.Prelude.{All}
use Rattle.std.specs.List.{concat}
use Rattle.std.proofs.lemmas.List.{get_or_append_left, get_or-append_right, get_or_at}
use Rattle.std.proofs.lemmas.List.Elements.{All-nil, All-cons, All-head, All-tail}
use Rattle.pfx_disk.specs.declared.gates.TheConstants.{GATE_OPEN}
use Rattle.pfx_segment.specs.Frames.{AreFrames, IsFrame}
use Rattle.pfx_segment.specs.Segment.{StandAt}
use Rattle.pfx_replay.proofs.FrameRuns.{one_run}
use Rattle.pfx_replay_audit.specs.Blocks.{IsSplit}

pub each : (gate end : ℕ) (frames : List (List ℕ)) (x : List ℕ) → AreFrames gate end frames x → All IsFrame frames
each gate end [] x are = All-nil IsFrame
each gate end (frame ∷ frames) x are = All-cons IsFrame frame frames are.1 (each (gate + length frame) end frames x are.3)

-- what stands in the middle of bytes
in_middle : (pre mid post x : List ℕ) (gate : ℕ) → x ≡ pre ++ (mid ++ post) → gate ≡ length pre → StandAt gate mid x
in_middle pre mid post x gate is at i below =
    ap (λ l. get_or l (gate + i) 0) is
    ∙ get_or-append_right pre (mid ++ post) gate (gate + i) 0 (sym at) (omega arith)
    ∙ ap (λ k. get_or (mid ++ post) k 0) (omega arith)
    ∙ get_or_append_left mid post 0 i below

shut : (gate x : ℕ) → x ≡ 0 → x ≢ GATE_OPEN
shut gate x is same = omega (arith, is, same)

run : (frames : List (List ℕ)) (pre x : List ℕ) (gate end : ℕ) → x ≡ pre ++ (concat frames ++ 0 ∷ []) → gate ≡ length pre → end ≡ length x → All IsFrame frames → AreFrames gate end frames x
run [] pre x gate end is at all each = shut gate (get_or x gate 0) (ap (λ l. get_or l gate 0) is ∙ get_or_at pre 0 [] 0 gate (sym at))
run (frame ∷ frames) pre x gate end is at all each =
    let split : x ≡ pre ++ (frame ++ (concat frames ++ 0 ∷ [])) = is ∙ ap (λ l. pre ++ l) (append_assoc frame (concat frames) (0 ∷ [])) in
    let further : x ≡ (pre ++ frame) ++ (concat frames ++ 0 ∷ []) = split ∙ sym (append_assoc pre frame (concat frames ++ 0 ∷ [])) in
    let long = ap length further ∙ length-append (pre ++ frame) (concat frames ++ 0 ∷ []) in
    let front = length-append pre frame in
    let back = length-append (concat frames) (0 ∷ []) in (
      in_middle pre frame (concat frames ++ 0 ∷ []) x gate split at,
      All-head IsFrame frame frames each,
      omega (arith, long, front, back, at, all),
      run frames (pre ++ frame) x (gate + length frame) end further (omega (arith, front, at)) all (All-tail IsFrame frame frames each),
    )

-- bytes that are frames have them in front of a closed gate
pub stands : (bytes : List ℕ) (frames : List (List ℕ)) → IsSplit bytes frames → AreFrames 0 (length bytes + 1) frames (bytes ++ 0 ∷ [])
stands bytes frames split =
    run frames [] (bytes ++ 0 ∷ []) 0 (length bytes + 1) (ap (λ l. l ++ 0 ∷ []) split.whole) refl (omega (arith, length-append bytes (0 ∷ []))) split.each

-- the bytes are the frames that are found there, if they are frames at all
pub found_split : (bytes : List ℕ) (frames others : List (List ℕ)) → AreFrames 0 (length bytes + 1) frames (bytes ++ 0 ∷ []) → IsSplit bytes others → bytes ≡ concat frames
found_split bytes frames others found split =
    split.whole ∙ ap concat (one_run 0 (length bytes + 1) others frames (bytes ++ 0 ∷ []) (omega arith) (omega (arith, length-append bytes (0 ∷ []))) (stands bytes others split) found)

-- there is one way to split bytes
pub one_split : (bytes : List ℕ) (frames others : List (List ℕ)) → IsSplit bytes frames → IsSplit bytes others → frames ≡ others
one_split bytes frames others one other =
    one_run 0 (length bytes + 1) frames others (bytes ++ 0 ∷ []) (omega arith) (omega (arith, length-append bytes (0 ∷ []))) (stands bytes frames one) (stands bytes others other)
