use Rattle.std.proofs.Common.{ℕ, pos, ◌<◌, get_or}
use Rattle.pfx_lanes.specs.Classes.{IsLane}
use Rattle.pfx_trial_machine.proofs.lanes.are_lanes.Given as goal

abbrev pub invariant-loop-k : goal.invariant-loop-k
invariant-loop-k l = (j : ℕ) → j < l.k → IsLane (get_or l.lag j (pos 0)) (get_or l.phase j (pos 0)) (get_or l.e j (pos 0)) (get_or l.p j (pos 0))
