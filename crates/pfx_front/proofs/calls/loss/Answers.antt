use Rattle.std.specs.Prelude.{Option}
use Rattle.std.proofs.Common.{◌≡◌, ◌+◌, ℕ, None, Some, refl, sym, ap, ◌∙◌}
use Rattle.std.proofs.lemmas.Option.{none-some}
use Rattle.pfx_book.specs.Notes.{answers_of, lost_in}
use Rattle.pfx_book.specs.declared.note.Loss.{Loss}
use Rattle.pfx_front.specs.declared.faults.CallFault.{CallFault}
use Rattle.pfx_front.specs.declared.faults.CallFault.TheVariants.{Refused, StoreFailed}
use Rattle.pfx_front.proofs.Losses.{mark_of, some_of, told_mark, told_once}
use Rattle.pfx_front.proofs.calls.loss.Goals as goal

-- src/calls.rt:59:17
pub unreachable-requires : goal.unreachable-requires
unreachable-requires g c =
    let d = some_of c.failure.result c.if-is_none.ensures in
    let loss : Loss = record { marked = g.B.Named.start.number + c.args.book.now.session.marked; cause = d.0 } in
    let noted = c.note_failure.ensures.noted d.0 (sym c.failure.ensures ∙ d.1) in
    let told = told_once c.args.pass.now.1 loss in
    none-some told.1 (c.in-None.ensures ∙ ap (λ p. lost_in p.1) noted ∙ told.2)

-- src/calls.rt:42:1
pub returns-clause-some : goal.returns-clause-some
returns-clause-some g c =
    let d = some_of c.failure.result c.if-is_none.ensures in
    let loss : Loss = record { marked = g.B.Named.start.number + c.args.book.now.session.marked; cause = d.0 } in
    let noted = c.note_failure.ensures.noted d.0 (sym c.failure.ensures ∙ d.1) in
    let told = told_once c.args.pass.now.1 loss in
    (ap (λ p. p.0) noted, ap (λ p. answers_of p.1) noted ∙ told.0, sym c.in-Some.ensures)

pub returns-clause-mark : goal.returns-clause-mark
returns-clause-mark g c = λ marked cause same.
    let d = some_of c.failure.result c.if-is_none.ensures in
    let last = g.B.Named.start.number + c.args.book.now.session.marked in
    let loss : Loss = record { marked = last; cause = d.0 } in
    let noted = c.note_failure.ensures.noted d.0 (sym c.failure.ensures ∙ d.1) in
    sym (ap mark_of same)
    ∙ told_mark c.args.pass.now.1 loss last refl c.note_failure.ensures.before c.in-Some.loss (ap (λ p. lost_in p.1) (sym noted) ∙ sym c.in-Some.ensures)
