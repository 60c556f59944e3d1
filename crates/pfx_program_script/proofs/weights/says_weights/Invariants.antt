use Rattle.std.proofs.Common.{ℕ, List, length, ◌==◌}
use Rattle.std.specs.List.{slice_split}
use Rattle.pfx_program_script.proofs.WeightLemmas.{ReadSoFar}
use Rattle.pfx_program_script.proofs.weights.says_weights.Given as goal

abbrev pub invariant-loop-part : goal.invariant-loop-part
invariant-loop-part l = (front : List (ℕ × ℕ)) × ReadSoFar (slice_split (λ b. b == 32) l.text) (length l.yielded) front
