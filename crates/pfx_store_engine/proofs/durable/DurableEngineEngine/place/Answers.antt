use Rattle.std.proofs.Common.{refl, sym, ◌∙◌}
use Rattle.pfx_store_engine.specs.KeepingLaws.{keeps_none}
use Rattle.pfx_store_engine.specs.Failing.{MayFail}
use Rattle.pfx_store_engine.proofs.Promising.{handed_fault, kept_whole, look_fine, look_handed}
use Rattle.pfx_store_engine.proofs.durable.DurableEngineEngine.place.Goals as goal

pub returns-in_err-_kept-clause-same : goal.returns-in_err-_kept-clause-same
returns-in_err-_kept-clause-same g c =
    let kept = g.K.BatchKeeper.kept in
    let failed = g.K.BatchKeeper.failed in
    record {
      state = refl;
      keeps = keeps_none g.J.Job.kind (g.D.Disk.view (kept c.args.self.now.keeper).file.disk) (failed c.args.self.now.keeper) (kept c.args.self.now.keeper).state;
    }

pub returns-clause-same : goal.returns-clause-same
returns-clause-same g c =
    let kept = g.K.BatchKeeper.kept in
    let failed = g.K.BatchKeeper.failed in
    record {
      state = refl;
      keeps = keeps_none g.J.Job.kind (g.D.Disk.view (kept c.args.self.now.keeper).file.disk) (failed c.args.self.now.keeper) (kept c.args.self.now.keeper).state;
    }

pub returns-in_err-_kept-clause-fails : goal.returns-in_err-_kept-clause-fails
returns-in_err-_kept-clause-fails g c =
    let kept = g.K.BatchKeeper.kept in
    let failed = g.K.BatchKeeper.failed in
    let old = c.args.self.now in
    let was = failed old.keeper in
    let s = (kept old.keeper).state in
    handed_fault (MayFail failed) was s c.from_residual.result _ (λ cause is. (old.keeper, is)) c.from_residual.ensures.1 (sym c.in_err-_kept.was ∙ c.last_kept.ensures.answer)

pub returns-in_err-_kept-clause-look : goal.returns-in_err-_kept-clause-look
returns-in_err-_kept-clause-look g c =
    let kept = g.K.BatchKeeper.kept in
    let failed = g.K.BatchKeeper.failed in
    let old = c.args.self.now in
    let was = failed old.keeper in
    let s = (kept old.keeper).state in
    look_handed was s.number old c.from_residual.result _ c.from_residual.ensures.1 (sym c.in_err-_kept.was ∙ c.last_kept.ensures.answer)

pub returns-clause-settled : goal.returns-clause-settled
returns-clause-settled g c =
    let kept = g.K.BatchKeeper.kept in
    let failed = g.K.BatchKeeper.failed in
    let old = c.args.self.now in
    let was = failed old.keeper in
    let s = (kept old.keeper).state in
    kept_whole was s.number c.in_ok-_kept._kept (sym c.last_kept.ensures.answer ∙ c.in_ok-_kept.was)

pub returns-clause-look : goal.returns-clause-look
returns-clause-look g c =
    let kept = g.K.BatchKeeper.kept in
    let failed = g.K.BatchKeeper.failed in
    let old = c.args.self.now in
    let was = failed old.keeper in
    let s = (kept old.keeper).state in
    look_fine was s.number c.in_ok-_kept._kept old c.place_of.result (sym c.in_ok-_kept.was ∙ c.last_kept.ensures.answer)
