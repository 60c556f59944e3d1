use Rattle.std.proofs.Common.{max}
use Rattle.pfx_store_engine.specs.Failing.{MayFail}
use Rattle.pfx_program_store.proofs.RunningLemmas.{kept_as_printed}
use Rattle.pfx_program_store.proofs.running.run_durable.Goals as goal

pub returns-clause-printed : goal.returns-clause-printed
returns-clause-printed g c =
    kept_as_printed (λ engine. g.D.Disk.view (g.K.BatchKeeper.kept engine.keeper).file.disk) (λ engine. g.K.BatchKeeper.failed engine.keeper) (λ engine. (g.K.BatchKeeper.kept engine.keeper).state) (MayFail g.K.BatchKeeper.failed) c.args.run.form c.args.run.at_refusal (max c.args.run.batch c.args.run.group) c.args.script.now c.run_script.new.script.failed
    c.args.engine.now c.run_script.new.engine (g.W.Write.contents c.args.output.now) (g.W.Write.contents c.run_script.new.output) c.run_script.result c.run_script.ensures
