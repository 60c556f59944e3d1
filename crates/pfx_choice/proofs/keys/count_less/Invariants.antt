use Rattle.std.proofs.Common.{◌≤◌}
use Rattle.pfx_choice.proofs.keys.count_less.Given as goal

abbrev pub invariant-loop-other : goal.invariant-loop-other
invariant-loop-other l = l.less ≤ l.other-index
