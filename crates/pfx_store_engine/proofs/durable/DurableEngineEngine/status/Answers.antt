use Rattle.std.proofs.Common.{refl, sym, subst}
use Rattle.pfx_machine.specs.Plain.{Plain}
use Rattle.pfx_store_engine.specs.Promises.{Shows}
use Rattle.pfx_store_engine.specs.KeepingLaws.{keeps_none}
use Rattle.pfx_store_engine.proofs.Promising.{kept_fault, kept_whole, look_failed, look_fine, look_starved}
use Rattle.pfx_store_engine.specs.Failing.{MayFail}
use Rattle.pfx_store_engine.proofs.durable.DurableEngineEngine.status.Goals as goal

pub returns-in-Err-clause-same : goal.returns-in-Err-clause-same
returns-in-Err-clause-same g c =
    let kept = g.K.BatchKeeper.kept in
    let failed = g.K.BatchKeeper.failed in
    record {
      state = refl;
      keeps = keeps_none g.J.Job.kind (g.D.Disk.view (kept c.args.self.now.keeper).file.disk) (failed c.args.self.now.keeper) (kept c.args.self.now.keeper).state;
    }

pub returns-in-Ok-clause-shows : goal.returns-in-Ok-clause-shows
returns-in-Ok-clause-shows g c =
    let kept = g.K.BatchKeeper.kept in
    let failed = g.K.BatchKeeper.failed in
    let whole = kept_whole (failed c.args.self.now.keeper) (kept c.args.self.now.keeper).state.number c.in_default.field-0 (sym c.in_default.ensures.answer) in
    subst (λ (s : Plain g.row.J.Denot). Shows g.J.Job.kind s c.in-Ok.board) (c.args.self.now.same whole) (record { number = c.in-Ok.ensures.number; slot = c.in-Ok.ensures.slot; from = c.in-Ok.ensures.from; lines = c.in-Ok.ensures.lines })

pub returns-in-Ok-clause-same : goal.returns-in-Ok-clause-same
returns-in-Ok-clause-same g c =
    let kept = g.K.BatchKeeper.kept in
    let failed = g.K.BatchKeeper.failed in
    record {
      state = refl;
      keeps = keeps_none g.J.Job.kind (g.D.Disk.view (kept c.args.self.now.keeper).file.disk) (failed c.args.self.now.keeper) (kept c.args.self.now.keeper).state;
    }

pub returns-in-Err-board-clause-same : goal.returns-in-Err-board-clause-same
returns-in-Err-board-clause-same g c =
    let kept = g.K.BatchKeeper.kept in
    let failed = g.K.BatchKeeper.failed in
    record {
      state = refl;
      keeps = keeps_none g.J.Job.kind (g.D.Disk.view (kept c.args.self.now.keeper).file.disk) (failed c.args.self.now.keeper) (kept c.args.self.now.keeper).state;
    }

pub returns-in-Err-clause-fails : goal.returns-in-Err-clause-fails
returns-in-Err-clause-fails g c =
    let kept = g.K.BatchKeeper.kept in
    let failed = g.K.BatchKeeper.failed in
    let old = c.args.self.now in
    let was = failed old.keeper in
    let s = (kept old.keeper).state in
    kept_fault (MayFail failed) was s c.in-Err.fault (λ cause is. (old.keeper, is)) c.in-Err.ensures.answer

pub returns-in-Err-clause-look : goal.returns-in-Err-clause-look
returns-in-Err-clause-look g c =
    let kept = g.K.BatchKeeper.kept in
    let failed = g.K.BatchKeeper.failed in
    let old = c.args.self.now in
    let was = failed old.keeper in
    let s = (kept old.keeper).state in
    look_failed was s.number old c.in-Err.fault c.in-Err.ensures.answer

pub returns-in-Ok-clause-settled : goal.returns-in-Ok-clause-settled
returns-in-Ok-clause-settled g c =
    let kept = g.K.BatchKeeper.kept in
    let failed = g.K.BatchKeeper.failed in
    let old = c.args.self.now in
    let was = failed old.keeper in
    let s = (kept old.keeper).state in
    kept_whole was s.number c.in_default.field-0 (sym c.in_default.ensures.answer)

pub returns-in-Ok-clause-look : goal.returns-in-Ok-clause-look
returns-in-Ok-clause-look g c =
    let kept = g.K.BatchKeeper.kept in
    let failed = g.K.BatchKeeper.failed in
    let old = c.args.self.now in
    let was = failed old.keeper in
    let s = (kept old.keeper).state in
    look_fine was s.number c.in_default.field-0 old c.in-Ok.board c.in_default.ensures.answer

pub returns-in-Err-board-clause-look : goal.returns-in-Err-board-clause-look
returns-in-Err-board-clause-look g c =
    let kept = g.K.BatchKeeper.kept in
    let failed = g.K.BatchKeeper.failed in
    let old = c.args.self.now in
    let was = failed old.keeper in
    let s = (kept old.keeper).state in
    look_starved was s.number c.in_default.field-0 old c.in_default.ensures.answer
