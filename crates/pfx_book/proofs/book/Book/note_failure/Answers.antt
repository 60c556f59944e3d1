use Rattle.std.specs.Prelude.{map}
use Rattle.std.specs.VecDeque.{deque_items}
use Rattle.std.proofs.Common.{ℕ, List, [], ◌<◌, ◌+◌, refl, sym, ap, ◌∙◌, subst, arith}
use Rattle.pfx_record.specs.Records.{plain}
use Rattle.pfx_book.specs.declared.note.Loss.{Loss}
use Rattle.pfx_book.specs.declared.note.Note.{Note}
use Rattle.pfx_book.specs.declared.note.Note.TheVariants.{Lost}
use Rattle.pfx_book.specs.Notes.{greatest, lost_in}
use Rattle.pfx_book.specs.Lines.{told}
use Rattle.pfx_book.specs.Kept.{IsKept}
use Rattle.pfx_book.specs.Register.{Register}
use Rattle.pfx_book.proofs.Notes.{greatest_same, lost_first, none_is}
use Rattle.pfx_book.proofs.Keeping.{kept_loss, told_mark}
use Rattle.pfx_book.proofs.book.Book.note_failure.Goals as goal

pub invariant_of-self-in-Some : goal.invariant_of-self-in-Some
invariant_of-self-in-Some g c =
    let s = c.self.inside in
    let K = g.J.Job.kind in
    let B = g.B.Named.start in
    let xs = told K B [] s.history.items in
    let pend = map plain (deque_items s.pending) in
    let loss : Loss = record { marked = c.marked-marked.result; cause = c.in-Some.cause } in
    let last = ap (λ (v : Register g.row.J.Denot). B.number + v.session.marked) (sym c.self.view_is) in
    let kept = kept_loss K B xs s.keeper s.passes s.state pend s.taken s.marked s.clock s.failure c.self.invariant.0 c.pass.inside.token.0 c.pass.inside.token.1 loss
    c.note.ensures.known (omega (arith, c.pass.invariant.1)) c.in-Some.is (c.marked-marked.ensures ∙ last) in
    (subst (λ (k : List (List (Note g.row.J.Denot))). IsKept K B xs k s.passes s.state pend s.taken s.marked s.clock s.failure) (sym c.note.ensures.keeper) kept, c.self.invariant.1, c.self.invariant.2, c.self.invariant.3)

pub returns-then-is_some-clause-before : goal.returns-then-is_some-clause-before
returns-then-is_some-clause-before g c = λ loss is.
    let s = c.self.inside in
    let K = g.J.Job.kind in
    let B = g.B.Named.start in
    let xs = told K B [] s.history.items in
    let pend = map plain (deque_items s.pending) in
    told_mark K B xs s.keeper s.passes s.state pend s.taken s.marked s.clock s.failure c.self.invariant.0 c.pass.inside.token.0 c.pass.inside.token.1 loss
    c.look.ensures.known (omega (arith, c.pass.invariant.1)) (ap (λ (x : ℕ × List (Note g.row.J.Denot)). lost_in x.1) c.pass.view_is ∙ is)
    ∙ ap (λ (v : Register g.row.J.Denot). B.number + v.session.marked) c.self.view_is

pub invariant_of-pass-in-Some : goal.invariant_of-pass-in-Some
invariant_of-pass-in-Some g c =
    let p = c.pass.invariant in
    let mine = c.pass.inside.token.1 in
    let loss : Loss = record { marked = c.marked-marked.result; cause = c.in-Some.cause } in
    let z = c.note.ensures.token in (
      p.0 ∙ sym (ap (λ x. x.0) z),
      subst (λ (x : ℕ × List (Note g.row.J.Denot)). 0 < x.0) (sym z) p.1,
      p.2 ∙ sym (ap (λ x. greatest x.1) z ∙ greatest_same mine (Lost loss) refl),
      sym (ap (λ x. lost_in x.1) z ∙ lost_first mine loss (sym p.3 ∙ none_is c.pass.inside.lost (sym c.if-is_some.ensures))),
    )
