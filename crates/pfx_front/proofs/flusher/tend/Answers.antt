use Rattle.std.proofs.Common.{Some, refl, sym, ap, ◌∙◌}
use Rattle.pfx_front.specs.Keeping.{frames_of, marks_of}
use Rattle.pfx_book.specs.declared.note.Note.TheVariants.{Failed}
use Rattle.pfx_record_redo.specs.Applying.{applied}
use Rattle.pfx_front.proofs.Steps.{records_still, step_tended, failed_behind, missed_by}
use Rattle.pfx_front.proofs.flusher.tend.Goals as goal

pub returns-in-Ok-clause-step : goal.returns-in-Ok-clause-step
returns-in-Ok-clause-step g c = λ _.
    let old = g.S.BatchKeeper.kept c.args.keeper.now in
    let new = g.S.BatchKeeper.kept c.tend_on-tended.new.self in
    step_tended g.J.Job.kind g.B.Named.start g.B.Charted.failures g.B.Charted.clock c.args.share.now old.file.broken new.file.broken
    old.state new.state (g.D.Disk.view old.file.disk) (g.D.Disk.view new.file.disk) c.requires.step
    c.tend_on-tended.ensures.state (c.failure-failure.ensures.whole (c.in-Ok.ensures.call.whole.1)) c.tend_on-tended.ensures.call.takes.no_fewer c.tend_on-tended.ensures.call.honest.1
    c.tend_on-tended.ensures.marks

pub returns-in-Err-clause-behind : goal.returns-in-Err-clause-behind
returns-in-Err-clause-behind g c = λ _.
    let old = g.S.BatchKeeper.kept c.args.keeper.now in
    let new = g.S.BatchKeeper.kept c.tend_on-tended.new.self in
    failed_behind g.J.Job.kind g.B.Named.start g.B.Charted.failures g.B.Charted.clock c.args.share.now c.fail_in.new.share c.in-Err.cause (g.S.BatchKeeper.failed c.tend_on-tended.new.self)
    old.file.broken new.file.broken old.state new.state (g.D.Disk.view old.file.disk) (g.D.Disk.view new.file.disk) c.requires.step
    c.fail_in.ensures c.tend_on-tended.ensures.state
    (missed_by g.D.Disk.view old new (g.S.BatchKeeper.failed c.args.keeper.now) (g.S.BatchKeeper.failed c.tend_on-tended.new.self) c.tend_on-tended.result _ c.in-Err.cause
    c.tend_on-tended.ensures.call c.in-Err.is c.requires.goes_on c.requires.step.whole)
    (λ honest.
    let before = c.tend_on-tended.ensures.call.honest.1 honest in
    (c.tend_on-tended.ensures.marks before g.B.Named.start (frames_of g.J.Job.kind c.args.share.now) (marks_of c.args.share.now) (c.requires.step.covers before)).marks)

pub returns-in-Err-clause-notes : goal.returns-in-Err-clause-notes
returns-in-Err-clause-notes g c = records_still c.args.share.now c.fail_in.new.share (Failed c.in-Err.cause) c.fail_in.ensures refl

pub returns-in-Ok-clause-leads : goal.returns-in-Ok-clause-leads
returns-in-Ok-clause-leads g c = c.requires.step.state ∙ ap Some (sym c.tend_on-tended.ensures.state)

pub returns-in-Err-clause-leads : goal.returns-in-Err-clause-leads
returns-in-Err-clause-leads g c =
    ap (applied g.J.Job.kind g.B.Named.start) (records_still c.args.share.now c.fail_in.new.share (Failed c.in-Err.cause) c.fail_in.ensures refl)
    ∙ c.requires.step.state ∙ ap Some (sym c.tend_on-tended.ensures.state)
