use Rattle.std.specs.Prelude.{map}
use Rattle.std.specs.VecDeque.{deque_items}
use Rattle.std.proofs.Common.{◌≡◌, ℕ, List, [], sym, ap, ◌∙◌, arith, rules}
use Rattle.pfx_record.specs.Records.{plain}
use Rattle.pfx_book.specs.declared.note.Note.{Note}
use Rattle.pfx_book.specs.Merging.{of}
use Rattle.pfx_book.specs.Notes.{answers_of}
use Rattle.pfx_book.specs.Lines.{told}
use Rattle.pfx_book.specs.Register.{Register}
use Rattle.pfx_book.proofs.Keeping.{its}
use Rattle.pfx_book.proofs.Gathering.{of_entries}
use Rattle.pfx_book.proofs.book.Book.look.Goals as goal

pub returns-clause-its : goal.returns-clause-its
returns-clause-its g c = λ _.
    let s = c.self.inside in
    let K = g.J.Job.kind in
    let B = g.B.Named.start in
    let p = c.pass.invariant in
    let h = c.self.invariant.0 in
    let r = its K B (told K B [] s.history.items) s.keeper s.passes s.state (map plain (deque_items s.pending)) s.taken s.marked s.clock s.failure h c.pass.inside.token.0 c.pass.inside.token.1 c.look.ensures.known (omega (arith, p.1)) in
    let num : c.pass.inside.token.0 ≡ c.args.number = search rules in
    ap (λ (z : ℕ × List (Note g.row.J.Denot)). answers_of z.1) (sym c.pass.view_is) ∙ ap answers_of r ∙ sym (of_entries c.pass.inside.token.0 h.all)
    ∙ ap (of c.pass.inside.token.0) (sym h.entries) ∙ ap (λ k. of k (told K B [] s.history.items)) num ∙ ap (λ (v : Register g.row.J.Denot). of c.args.number v.history) c.self.view_is
