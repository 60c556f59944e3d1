use Rattle.std.specs.Prelude.{map}
use Rattle.std.specs.VecDeque.{deque_items}
use Rattle.std.proofs.Common.{◌+◌, [], sym, ap, ◌∙◌, subst, arith}
use Rattle.pfx_record.specs.Records.{plain}
use Rattle.pfx_book.specs.Lines.{told}
use Rattle.pfx_book.specs.Kept.{IsKept}
use Rattle.pfx_book.specs.Register.{Register}
use Rattle.pfx_book.specs.Notes.{greatest, lost_in}
use Rattle.pfx_book.proofs.Keeping.{kept_pass, length_kept}
use Rattle.pfx_book.proofs.book.Book.pass.Goals as goal

pub invariant_of-result : goal.invariant_of-result
invariant_of-result g c =
    let t = c.issue-token.ensures.token in
    let n = ap (λ x. x.0) t in
    let long = length_kept g.J.Job.kind _ _ _ _ _ _ _ _ _ _ c.self.invariant.0 in
    (long ∙ sym n, omega (arith, n, long), sym (ap (λ x. greatest x.1) t), sym (ap (λ x. lost_in x.1) t))

pub invariant_of-self : goal.invariant_of-self
invariant_of-self g c =
    let s = c.self.inside in (
      subst (λ l. IsKept g.J.Job.kind g.B.Named.start (told g.J.Job.kind g.B.Named.start [] s.history.items) l (s.passes + 1) s.state (map plain (deque_items s.pending)) s.taken s.marked s.clock s.failure)
          (sym c.issue-token.ensures.keeper) (kept_pass g.J.Job.kind _ _ _ _ _ _ _ _ _ _ c.self.invariant.0 (omega arith)),
      c.self.invariant.1,
      c.self.invariant.2,
      c.self.invariant.3,
    )

pub returns-clause-some : goal.returns-clause-some
returns-clause-some g c =
    let v = c.self.view_is in
    let long = length_kept g.J.Job.kind _ _ _ _ _ _ _ _ _ _ c.self.invariant.0 in
    (c.issue-token.ensures.token ∙ (λ i. ((sym long ∙ ap (λ (w : Register g.row.J.Denot). w.passes + 1) v) i, [])), ap (λ (w : Register g.row.J.Denot). record w { passes = w.passes + 1 }) v)
