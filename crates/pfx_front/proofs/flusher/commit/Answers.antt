use Rattle.std.proofs.Common.{◌≡◌, ◌+◌, ◌++◌, ◌∷◌, [], length, Some, refl, sym, ap, ◌∙◌, subst}
use Rattle.pfx_book.specs.Notes.{Noted, records_in}
use Rattle.pfx_book.specs.declared.note.Note.TheVariants.{Failed, Marked}
use Rattle.pfx_front_board.specs.Word.{records_of}
use Rattle.pfx_record_redo.specs.Applying.{applied}
use Rattle.pfx_front.specs.Keeping.{InStep}
use Rattle.pfx_front.specs.Lasting.{AreNoted}
use Rattle.pfx_front.specs.Showing.{AreShown, IsShown}
use Rattle.pfx_store.specs.Stores.{PlainStore}
use Rattle.pfx_front.proofs.Steps.{batch_small, mark_number, step_marked, published, unfailed_here, batch_behind, memory_behind, memory_shown, marked_shown, missed_shown, published_leads}
use Rattle.pfx_front.proofs.flusher.commit.Goals as goal

pub show-requires : goal.show-requires
show-requires g c =
    let old = g.S.BatchKeeper.kept c.args.keeper.now in
    let new = g.S.BatchKeeper.kept c.append_taken.new.keeper in
    let small = batch_small c.args.batch.workers c.args.batch.real c.args.batch.first c.args.batch.records.items c.args.batch.fits in
    let leads = published_leads g.J.Job.kind g.B.Named.start g.B.Charted.failures g.B.Charted.clock c.args.share.now c.args.batch old.file.broken new.file.broken
    old.state new.state (g.D.Disk.view old.file.disk) (g.D.Disk.view new.file.disk) c.requires.taken small
    c.args.publisher.now.batches c.requires.shown c.in-Ok.ensures.done.moved in
    record {
      taken = published g.J.Job.kind g.B.Named.start g.B.Charted.failures g.B.Charted.clock c.args.share.now c.args.batch old.file.broken new.file.broken
          old.state new.state (g.D.Disk.view old.file.disk) (g.D.Disk.view new.file.disk) c.requires.taken small
          c.args.publisher.now.batches c.requires.shown;
      leads = subst (λ o. applied g.J.Job.kind o (records_of (c.args.publisher.now.batches ++ c.args.batch ∷ [])) ≡ Some new.state) (sym c.requires.origin) leads
          ∙ ap (λ (s : PlainStore _ _). Some s.state) (sym c.stored.ensures);
      whole = ap (λ (s : PlainStore _ _). s.file.broken) c.stored.ensures ∙ c.in-Ok.ensures.done.whole;
    }

pub mark_in-requires : goal.mark_in-requires
mark_in-requires g c =
    let old = g.S.BatchKeeper.kept c.args.keeper.now in
    let new = g.S.BatchKeeper.kept c.append_taken.new.keeper in
    let small = batch_small c.args.batch.workers c.args.batch.real c.args.batch.first c.args.batch.records.items c.args.batch.fits in
    record {
      taken = c.in-Some.ensures.shown.1;
      origin = c.requires.origin;
      number = subst (λ n. c.in-Ok.mark.number ≡ g.B.Named.start.number + length (records_in n)) (sym c.in-Some.ensures.shown.0)
          (mark_number g.J.Job.kind g.B.Named.start g.B.Charted.failures g.B.Charted.clock c.args.share.now c.args.batch old.file.broken new.file.broken
          old.state new.state (g.D.Disk.view old.file.disk) (g.D.Disk.view new.file.disk) c.requires.taken small
          c.in-Ok.mark.number c.in-Ok.ensures.done.moved c.in-Ok.ensures.done.number);
      unfailed = λ cause noted.
          unfailed_here g.J.Job.kind g.B.Named.start g.B.Charted.failures g.B.Charted.clock c.args.share.now c.args.batch old.file.broken new.file.broken
          old.state new.state (g.D.Disk.view old.file.disk) (g.D.Disk.view new.file.disk) c.requires.taken small
          cause (subst (Noted (Failed cause)) c.in-Some.ensures.shown.0 noted);
      step =
          subst (λ (s : PlainStore _ _). InStep g.J.Job.kind g.B.Named.start g.B.Charted.failures g.B.Charted.clock
          (c.show.new.share ++ Marked c.in-Ok.mark.number c.in-Ok.mark.clock ∷ []) s.file.broken s.state (g.D.Disk.view s.file.disk)) (sym c.stored-in-Some.ensures)
          (step_marked g.J.Job.kind g.B.Named.start g.B.Charted.failures g.B.Charted.clock c.args.share.now c.args.batch old.file.broken new.file.broken
          old.state new.state (g.D.Disk.view old.file.disk) (g.D.Disk.view new.file.disk) c.requires.taken small
          (c.show.new.share ++ Marked c.in-Ok.mark.number c.in-Ok.mark.clock ∷ []) c.in-Ok.mark (ap (λ l. l ++ Marked c.in-Ok.mark.number c.in-Ok.mark.clock ∷ []) c.in-Some.ensures.shown.0)
          c.in-Ok.ensures.done.whole c.in-Ok.ensures.done.moved c.in-Ok.ensures.done.number c.in-Ok.ensures.done.no_fewer c.in-Ok.ensures.done.honest c.in-Ok.ensures.done.marks);
      noted = subst (AreNoted c.args.marking.now) (sym c.in-Some.ensures.shown.0) c.requires.noted;
    }

pub returns-in-None-clause-behind : goal.returns-in-None-clause-behind
returns-in-None-clause-behind g c =
    let old = g.S.BatchKeeper.kept c.args.keeper.now in
    let new = g.S.BatchKeeper.kept c.append_taken.new.keeper in
    let small = batch_small c.args.batch.workers c.args.batch.real c.args.batch.first c.args.batch.records.items c.args.batch.fits in
    memory_behind g.J.Job.kind g.B.Named.start g.B.Charted.failures g.B.Charted.clock c.args.share.now c.args.batch old.file.broken new.file.broken
    old.state new.state (g.D.Disk.view old.file.disk) (g.D.Disk.view new.file.disk) c.requires.taken small
    c.show.new.share (g.S.BatchKeeper.failed c.append_taken.new.keeper) c.in-Ok.mark c.in-Ok.ensures.done.whole c.in-None.ensures.lost c.in-Ok.ensures.done.moved c.in-Ok.ensures.done.honest c.in-Ok.ensures.done.marks

pub returns-in-None-clause-left : goal.returns-in-None-clause-left
returns-in-None-clause-left g c =
    let old = g.S.BatchKeeper.kept c.args.keeper.now in
    let new = g.S.BatchKeeper.kept c.append_taken.new.keeper in
    let small = batch_small c.args.batch.workers c.args.batch.real c.args.batch.first c.args.batch.records.items c.args.batch.fits in
    subst (λ b. IsShown g.J.Job.kind g.B.Named.start c.show.new.share b new.state) (sym c.show.ensures.batches)
    (memory_shown g.J.Job.kind g.B.Named.start g.B.Charted.failures g.B.Charted.clock c.args.share.now c.args.batch old.file.broken new.file.broken
    old.state new.state (g.D.Disk.view old.file.disk) (g.D.Disk.view new.file.disk) c.requires.taken small
    c.show.new.share c.args.publisher.now.batches c.in-None.ensures.lost c.requires.shown c.in-Ok.ensures.done.moved)

pub returns-in-Some-clause-step : goal.returns-in-Some-clause-step
returns-in-Some-clause-step g c =
    let old = g.S.BatchKeeper.kept c.args.keeper.now in
    let new = g.S.BatchKeeper.kept c.append_taken.new.keeper in
    let small = batch_small c.args.batch.workers c.args.batch.real c.args.batch.first c.args.batch.records.items c.args.batch.fits in
    let noted = c.mark_in.ensures.share ∙ ap (λ l. l ++ Marked c.in-Ok.mark.number c.in-Ok.mark.clock ∷ []) c.in-Some.ensures.shown.0 in
    step_marked g.J.Job.kind g.B.Named.start g.B.Charted.failures g.B.Charted.clock c.args.share.now c.args.batch old.file.broken new.file.broken
    old.state new.state (g.D.Disk.view old.file.disk) (g.D.Disk.view new.file.disk) c.requires.taken small
    c.mark_in.new.share c.in-Ok.mark noted c.in-Ok.ensures.done.whole c.in-Ok.ensures.done.moved c.in-Ok.ensures.done.number
    c.in-Ok.ensures.done.no_fewer c.in-Ok.ensures.done.honest c.in-Ok.ensures.done.marks

pub returns-in-Some-clause-shown : goal.returns-in-Some-clause-shown
returns-in-Some-clause-shown g c =
    let old = g.S.BatchKeeper.kept c.args.keeper.now in
    let new = g.S.BatchKeeper.kept c.append_taken.new.keeper in
    let small = batch_small c.args.batch.workers c.args.batch.real c.args.batch.first c.args.batch.records.items c.args.batch.fits in
    let noted = c.mark_in.ensures.share ∙ ap (λ l. l ++ Marked c.in-Ok.mark.number c.in-Ok.mark.clock ∷ []) c.in-Some.ensures.shown.0 in
    subst (AreShown c.mark_in.new.share) (sym c.show.ensures.batches)
    (marked_shown g.J.Job.kind g.B.Named.start g.B.Charted.failures g.B.Charted.clock c.args.share.now c.args.batch old.file.broken new.file.broken
    old.state new.state (g.D.Disk.view old.file.disk) (g.D.Disk.view new.file.disk) c.requires.taken small
    c.mark_in.new.share c.args.publisher.now.batches c.in-Ok.mark.number c.in-Ok.mark.clock noted c.requires.shown)

pub append_taken-requires : goal.append_taken-requires
append_taken-requires g c =
    let next = c.requires.taken.goes (g.S.BatchKeeper.kept c.args.keeper.now).state c.requires.taken.step.state in
    record { next = (next.0, next.1, next.2, next.3); goes_on = c.requires.goes_on }

pub returns-in-Err-clause-behind : goal.returns-in-Err-clause-behind
returns-in-Err-clause-behind g c =
    let old = g.S.BatchKeeper.kept c.args.keeper.now in
    let new = g.S.BatchKeeper.kept c.append_taken.new.keeper in
    let small = batch_small c.args.batch.workers c.args.batch.real c.args.batch.first c.args.batch.records.items c.args.batch.fits in
    batch_behind g.J.Job.kind g.B.Named.start g.B.Charted.failures g.B.Charted.clock c.args.share.now c.args.batch old.file.broken new.file.broken
    old.state new.state (g.D.Disk.view old.file.disk) (g.D.Disk.view new.file.disk) c.requires.taken small
    c.fail_in.new.share c.in-Err.cause (g.S.BatchKeeper.failed c.append_taken.new.keeper) c.fail_in.ensures c.in-Err.ensures.missed.same (
      c.in-Err.ensures.missed.device,
      λ is. ap (λ (p : PlainStore _ _). p.file.broken) (c.in-Err.ensures.missed.memory is) ∙ c.requires.taken.step.whole,
      λ is. ((c.in-Err.ensures.missed.log is).1, ap (λ (p : PlainStore _ _). p.file.broken) (c.in-Err.ensures.missed.log is).0 ∙ c.requires.taken.step.whole),
    )
    c.in-Err.ensures.missed.honest c.in-Err.ensures.missed.marks

pub returns-in-Err-clause-left : goal.returns-in-Err-clause-left
returns-in-Err-clause-left g c =
    let old = g.S.BatchKeeper.kept c.args.keeper.now in
    let new = g.S.BatchKeeper.kept c.append_taken.new.keeper in
    let small = batch_small c.args.batch.workers c.args.batch.real c.args.batch.first c.args.batch.records.items c.args.batch.fits in
    missed_shown g.J.Job.kind g.B.Named.start g.B.Charted.failures g.B.Charted.clock c.args.share.now c.args.batch old.file.broken new.file.broken
    old.state new.state (g.D.Disk.view old.file.disk) (g.D.Disk.view new.file.disk) c.requires.taken small
    c.fail_in.new.share c.in-Err.cause c.args.publisher.now.batches c.fail_in.ensures c.requires.shown c.in-Err.ensures.missed.same
