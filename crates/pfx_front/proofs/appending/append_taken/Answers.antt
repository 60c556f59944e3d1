use Rattle.pfx_front.proofs.Appends.{kept_if, memory_refused, missed_if}
use Rattle.pfx_front.proofs.appending.append_taken.Goals as goal

pub returns-in-Ok-clause-done : goal.returns-in-Ok-clause-done
returns-in-Ok-clause-done g c =
    kept_if g.D.Disk.view g.J.Job.kind c.args.batch.now (g.S.BatchKeeper.kept c.args.keeper.now) (g.S.BatchKeeper.kept c.keep_reweigh-result.new.self)
    (g.S.BatchKeeper.failed c.args.keeper.now) (g.S.BatchKeeper.failed c.keep_reweigh-result.new.self) c.keep_reweigh-result.result c.keep_reweigh-result.ensures
    c.failure-failure-in-Ok.ensures.whole

pub returns-in-Ok-clause-missed : goal.returns-in-Ok-clause-missed
returns-in-Ok-clause-missed g c =
    missed_if g.D.Disk.view g.J.Job.kind c.args.batch.now (g.S.BatchKeeper.kept c.args.keeper.now) (g.S.BatchKeeper.kept c.keep_reweigh-result.new.self)
    (g.S.BatchKeeper.failed c.args.keeper.now) (g.S.BatchKeeper.failed c.keep_reweigh-result.new.self) c.keep_reweigh-result.result c.keep_reweigh-result.ensures
    c.requires.goes_on

pub returns-in-Err-clause-missed : goal.returns-in-Err-clause-missed
returns-in-Err-clause-missed g c = memory_refused g.D.Disk.view g.J.Job.kind c.args.batch.now (g.S.BatchKeeper.kept c.args.keeper.now) (g.S.BatchKeeper.failed c.args.keeper.now)
