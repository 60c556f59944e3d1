use Rattle.std.proofs.Common.{◌≡◌, map}
use Rattle.pfx_machine.specs.Slots.{deal, written_back}
use Rattle.pfx_machine.proofs.slot.write_back.Given as goal

abbrev pub invariant-loop-done : goal.invariant-loop-done
invariant-loop-done g l = l.jobs ≡ written_back g.J.Job.kind (map (λ d. deal d.number d.slot d.task d.before) l.yielded) l.fn.jobs
