use Rattle.std.proofs.Common.{List, ℕ, Err, ap, inr, subst, sym, refl, [], ◌∷◌, ◌++◌, ◌≡◌, ◌∙◌, max}
use Rattle.std.specs.Prelude.{IsPermutation}
use Rattle.pfx_book.specs.declared.note.Note.{Note}
use Rattle.pfx_fault.specs.declared.refusals.Fault.TheVariants.{NoMemory}
use Rattle.pfx_front.specs.Closing.{IsSession}
use Rattle.pfx_kinds.specs.AnyKind.{any_kind}
use Rattle.pfx_kinds.specs.declared.any.AnyJob.{AnyJob}
use Rattle.pfx_program_store.proofs.ServingLemmas.{fresh_images, one_pass, served, session_alone, unserved}
use Rattle.pfx_program_store.specs.Serving.{IsServedRun}
use Rattle.pfx_front_engine.specs.declared.engine.FrontEngine.{FrontEngine}
use Rattle.pfx_program_store.proofs.kept.serve_kept.Goals as goal

pub returns-in_default : goal.returns-in_default
returns-in_default g c =
    let B = g.B.Named.start in
    let store = g.S.BatchKeeper.kept c.args.keeper in
    let disk = g.D.Disk.view store.file.disk in
    unserved c.args.run.form c.args.run.at_refusal B disk c.args.script.now c.args.script.now.failed (g.W.Write.contents c.args.output.now) NoMemory (inr refl)
    (fresh_images B store.state g.B.Charted.failures g.B.Charted.clock store.file.broken disk c.requires.fresh)

pub returns-in-Ok-close_kept : goal.returns-in-Ok-close_kept
returns-in-Ok-close_kept g c =
    let B = g.B.Named.start in
    let pass : ℕ × List (Note AnyJob) = c.into_pass.result in
    let left = c.in-Ok-close_kept.left in
    let given : c.push_reserved.new.self.items ≡ pass ∷ [] =
    c.push_reserved.ensures.items ∙ ap (λ (l : List (ℕ × List (Note AnyJob))). l ++ pass ∷ []) c.in-Ok.ensures.items in
    let only : left.given.passes.items ≡ pass ∷ [] =
    one_pass pass left.given.passes.items (subst (λ (l : List (ℕ × List (Note AnyJob))). IsPermutation l left.given.passes.items) given c.in-Ok-close_kept.ensures.passes) in
    let session : IsSession any_kind B left.book (pass ∷ []) =
    subst (λ (l : List (ℕ × List (Note AnyJob))). IsSession any_kind B left.book l) only c.in-Ok-close_kept.ensures.session in
    served c.args.run.form c.args.run.at_refusal B left.book (g.D.Disk.view (g.S.BatchKeeper.kept left.keeper).file.disk) _ pass.1 (session_alone any_kind B left.book pass.0 pass.1 session) session.commands
    {E = FrontEngine AnyJob g.row.B.Denot g.row.K.Denot g.row.R.Denot g.row.K-Seat.Denot _ g.B.Since g.B.Named g.B.Room g.B.Begun g.B.Naming g.B.Charted} (λ e. e.client) (max c.args.run.batch c.args.run.group) _ c.run_script-result.new.engine c.new-client.ensures (sym c.into_pass.ensures) c.in-Ok-close_kept.ensures.images c.args.script.now
    c.run_script-result.new.script.failed (g.W.Write.contents c.args.output.now) (g.W.Write.contents c.run_script-result.new.output) c.run_script-result.result c.run_script-result.ensures

pub returns-after-pass : goal.returns-after-pass
returns-after-pass g c = absurd c.never.ensures

pub returns-in-Err : goal.returns-in-Err
returns-in-Err g c =
    let B = g.B.Named.start in
    let store = g.S.BatchKeeper.kept c.args.keeper in
    let disk = g.D.Disk.view store.file.disk in
    subst (λ keeper. IsServedRun c.args.run.form c.args.run.at_refusal B c.args.script.now c.args.script.now.failed (g.W.Write.contents c.args.output.now) (g.W.Write.contents c.args.output.now) (g.D.Disk.view (g.S.BatchKeeper.kept keeper).file.disk) (Err c.start_fault.result)) (sym c.in-Err.ensures.given_back)
    (unserved c.args.run.form c.args.run.at_refusal B disk c.args.script.now c.args.script.now.failed (g.W.Write.contents c.args.output.now) c.start_fault.result c.start_fault.ensures
    (fresh_images B store.state g.B.Charted.failures g.B.Charted.clock store.file.broken disk c.requires.fresh))
