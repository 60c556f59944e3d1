use Rattle.pfx_fault.specs.declared.refusals.Fault.TheVariants as fault
use Rattle.pfx_machine.specs.declared.command.Command.TheVariants.{Reweigh}
use Rattle.pfx_program.specs.Running.{run_of}
use Rattle.pfx_program.specs.Script.{command_step}
use Rattle.pfx_program.proofs.StepLemmas.{failed_same, same}
use Rattle.pfx_program.proofs.scripts.run_reweigh.Goals as goal
use Rattle.pfx_program_script.specs.Weights.{said_weights}

pub returns-in_default-clause-err : goal.returns-in_default-clause-err
returns-in_default-clause-err g c =
    let P = g.E.Engine.promise in
    let L = g.met.E.Engine.laws in
    let step = command_step (run_of P c.args.form c.args.engine.now c.args.accepted.now) (Reweigh c.args.workers (said_weights c.args.text.now)) in
    failed_same P L step c.args.engine.now c.args.engine.now (g.W.Printer.contents c.args.output.now) fault.NoMemory tt (same P L c.args.engine.now)
