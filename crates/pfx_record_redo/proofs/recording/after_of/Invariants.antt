use Rattle.std.proofs.Common.{◌≡◌, drop, map}
use Rattle.pfx_machine.specs.Slots.{deal}
use Rattle.pfx_record_redo.specs.Recording.{after_in}
use Rattle.pfx_record_redo.proofs.recording.after_of.Given as goal

abbrev pub invariant-loop-done : goal.invariant-loop-done
invariant-loop-done g l = after_in g.J.Job.kind l.task (map (λ d. deal d.number d.slot d.task d.before) (drop l.done-index l.dones)) ≡ after_in g.J.Job.kind l.task (map (λ d. deal d.number d.slot d.task d.before) l.dones)
