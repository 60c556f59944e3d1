use Rattle.std.proofs.Common.{refl}
use Rattle.pfx_store_engine.specs.KeepingLaws.{keeps_none}
use Rattle.pfx_store_engine.specs.Failing.{MayFail}
use Rattle.pfx_store_engine.proofs.Promising.{kept_faults, kept_number, kept_settles}
use Rattle.pfx_store_engine.proofs.durable.DurableEngineEngine.settled.Goals as goal

pub returns-clause-same : goal.returns-clause-same
returns-clause-same g c =
    let kept = g.K.BatchKeeper.kept in
    let failed = g.K.BatchKeeper.failed in
    record {
      state = refl;
      keeps = keeps_none g.J.Job.kind (g.D.Disk.view (kept c.args.self.now.keeper).file.disk) (failed c.args.self.now.keeper) (kept c.args.self.now.keeper).state;
    }

pub returns-clause-fails : goal.returns-clause-fails
returns-clause-fails g c =
    let kept = g.K.BatchKeeper.kept in
    let failed = g.K.BatchKeeper.failed in
    let old = c.args.self.now in
    let was = failed old.keeper in
    let s = (kept old.keeper).state in
    kept_faults (MayFail failed) was s c.last_kept.result (λ cause is. (old.keeper, is)) c.last_kept.ensures.answer

pub returns-clause-settled : goal.returns-clause-settled
returns-clause-settled g c =
    let kept = g.K.BatchKeeper.kept in
    let failed = g.K.BatchKeeper.failed in
    let old = c.args.self.now in
    let was = failed old.keeper in
    let s = (kept old.keeper).state in
    kept_settles was s.number c.last_kept.result c.last_kept.ensures.answer

pub returns-clause-number : goal.returns-clause-number
returns-clause-number g c =
    let kept = g.K.BatchKeeper.kept in
    let failed = g.K.BatchKeeper.failed in
    let old = c.args.self.now in
    let was = failed old.keeper in
    let s = (kept old.keeper).state in
    kept_number was s.number c.last_kept.result c.last_kept.ensures.answer
