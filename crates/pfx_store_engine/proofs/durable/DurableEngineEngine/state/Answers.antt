use Rattle.std.proofs.Common.{refl, sym, ◌∙◌}
use Rattle.pfx_store_engine.specs.KeepingLaws.{keeps_none}
use Rattle.pfx_store_engine.specs.Failing.{MayFail}
use Rattle.pfx_store_engine.proofs.Promising.{handed_fault, kept_whole, look_fine, look_handed, look_starved}
use Rattle.pfx_store_engine.proofs.durable.DurableEngineEngine.state.Goals as goal

pub returns-in_err-_number-clause-same : goal.returns-in_err-_number-clause-same
returns-in_err-_number-clause-same g c =
    let kept = g.K.BatchKeeper.kept in
    let failed = g.K.BatchKeeper.failed in
    record {
      state = refl;
      keeps = keeps_none g.J.Job.kind (g.D.Disk.view (kept c.args.self.now.keeper).file.disk) (failed c.args.self.now.keeper) (kept c.args.self.now.keeper).state;
    }

pub returns-in-Ok-clause-same : goal.returns-in-Ok-clause-same
returns-in-Ok-clause-same g c =
    let kept = g.K.BatchKeeper.kept in
    let failed = g.K.BatchKeeper.failed in
    record {
      state = refl;
      keeps = keeps_none g.J.Job.kind (g.D.Disk.view (kept c.args.self.now.keeper).file.disk) (failed c.args.self.now.keeper) (kept c.args.self.now.keeper).state;
    }

pub returns-in-Err-clause-same : goal.returns-in-Err-clause-same
returns-in-Err-clause-same g c =
    let kept = g.K.BatchKeeper.kept in
    let failed = g.K.BatchKeeper.failed in
    record {
      state = refl;
      keeps = keeps_none g.J.Job.kind (g.D.Disk.view (kept c.args.self.now.keeper).file.disk) (failed c.args.self.now.keeper) (kept c.args.self.now.keeper).state;
    }

pub returns-in_err-_number-clause-fails : goal.returns-in_err-_number-clause-fails
returns-in_err-_number-clause-fails g c =
    let kept = g.K.BatchKeeper.kept in
    let failed = g.K.BatchKeeper.failed in
    let old = c.args.self.now in
    let was = failed old.keeper in
    let s = (kept old.keeper).state in
    handed_fault (MayFail failed) was s c.from_residual.result _ (λ cause is. (old.keeper, is)) c.from_residual.ensures.1 (sym c.in_err-_number.was ∙ c.last_kept.ensures.answer)

pub returns-in_err-_number-clause-look : goal.returns-in_err-_number-clause-look
returns-in_err-_number-clause-look g c =
    let kept = g.K.BatchKeeper.kept in
    let failed = g.K.BatchKeeper.failed in
    let old = c.args.self.now in
    let was = failed old.keeper in
    let s = (kept old.keeper).state in
    look_handed was s.number old c.from_residual.result _ c.from_residual.ensures.1 (sym c.in_err-_number.was ∙ c.last_kept.ensures.answer)

pub returns-in-Ok-clause-settled : goal.returns-in-Ok-clause-settled
returns-in-Ok-clause-settled g c =
    let kept = g.K.BatchKeeper.kept in
    let failed = g.K.BatchKeeper.failed in
    let old = c.args.self.now in
    let was = failed old.keeper in
    let s = (kept old.keeper).state in
    kept_whole was s.number c.in_ok-_number._number (sym c.last_kept.ensures.answer ∙ c.in_ok-_number.was)

pub returns-in-Ok-clause-look : goal.returns-in-Ok-clause-look
returns-in-Ok-clause-look g c =
    let kept = g.K.BatchKeeper.kept in
    let failed = g.K.BatchKeeper.failed in
    let old = c.args.self.now in
    let was = failed old.keeper in
    let s = (kept old.keeper).state in
    look_fine was s.number c.in_ok-_number._number old c.in-Ok.copy (sym c.in_ok-_number.was ∙ c.last_kept.ensures.answer)

pub returns-in-Err-clause-look : goal.returns-in-Err-clause-look
returns-in-Err-clause-look g c =
    let kept = g.K.BatchKeeper.kept in
    let failed = g.K.BatchKeeper.failed in
    let old = c.args.self.now in
    let was = failed old.keeper in
    let s = (kept old.keeper).state in
    look_starved was s.number c.in_ok-_number._number old (sym c.in_ok-_number.was ∙ c.last_kept.ensures.answer)
