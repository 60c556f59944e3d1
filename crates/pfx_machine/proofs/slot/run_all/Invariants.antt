use Rattle.std.proofs.Common.{◌≡◌, map}
use Rattle.pfx_machine.specs.Slots.{deal}
use Rattle.pfx_machine.proofs.slot.run_all.Given as goal

abbrev pub invariant-loop-quantum : goal.invariant-loop-quantum
invariant-loop-quantum g l = map (λ d. deal d.number d.slot d.task d.before) l.dones.items ≡ map (λ q. deal q.number q.slot q.task q.before) l.yielded
