use Rattle.std.proofs.Common.{◌≤◌}
use Rattle.pfx_choice.proofs.kinds.Kinds.find.Given as goal

abbrev pub invariant-loop-k : goal.invariant-loop-k
invariant-loop-k l = l.n ≤ 1152
