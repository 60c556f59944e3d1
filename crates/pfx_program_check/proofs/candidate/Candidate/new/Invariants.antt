use Rattle.std.proofs.Common.{◌≡◌}
use Rattle.pfx_program_check.specs.Faults.{upto}
use Rattle.pfx_program_check.proofs.candidate.Candidate.new.Given as goal

abbrev pub invariant-loop-x : goal.invariant-loop-x
invariant-loop-x l = l.numbers.items ≡ upto l.x
