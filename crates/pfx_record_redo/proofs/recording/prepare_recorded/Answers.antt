use Rattle.std.proofs.Common.{arith}
use Rattle.pfx_machine.specs.Reweighing.{reweigh_fault}
use Rattle.pfx_machine.proofs.Keeping.{below_limit}
use Rattle.pfx_machine.proofs.Reweighs.{accepted_set}
use Rattle.pfx_record_redo.proofs.recording.prepare_recorded.Goals as goal

pub overflow_cast-entry : goal.overflow_cast-entry
overflow_cast-entry g c =
    let s = c.args.state.now in
    let parts = below_limit s.number (reweigh_fault s c.args.workers c.args.weights) c.in_ok-epoch.ensures.exact in
    let few = (accepted_set s c.args.workers c.args.weights parts.1).accepts.workers.1 in
    omega (arith, few)
