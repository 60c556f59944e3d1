use Rattle.std.proofs.Common.{◌≡◌, ◌++◌, drop, map}
use Rattle.pfx_machine.specs.Slots.{deal, deals}
use Rattle.pfx_machine.proofs.slot.deal_all.Given as goal

abbrev pub invariant-loop-i : goal.invariant-loop-i
invariant-loop-i g l = map (λ q. deal q.number q.slot q.task q.before) l.quanta.items ++ deals g.J.Job.kind l.fn.number l.fn.slot (drop l.i l.row) l.jobs ≡ deals g.J.Job.kind l.fn.number l.fn.slot l.row l.jobs
