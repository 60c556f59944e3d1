use Rattle.std.proofs.Common.{◌≤◌, ◌-◌, length}
use Rattle.pfx_choice.proofs.keys.end_of.Given as goal

abbrev pub invariant-tasks : goal.invariant-tasks
invariant-tasks l = l.x ≤ length l.places

abbrev pub decreases-tasks : goal.decreases-tasks
decreases-tasks l = length l.places - l.x
