use Rattle.std.specs.Prelude.{Some, slice_get, slice_set, map}
use Rattle.std.specs.VecDeque.{deque_items}
use Rattle.std.proofs.Common.{◌≡◌, ◌∷◌, ◌++◌, [], List, sym, ap, ◌∙◌, subst}
use Rattle.pfx_record.specs.Records.{plain}
use Rattle.pfx_book.specs.declared.note.Note.{Note}
use Rattle.pfx_book.specs.declared.note.Note.TheVariants.{Failed}
use Rattle.pfx_book.specs.Lines.{told}
use Rattle.pfx_book.specs.Kept.{IsKept}
use Rattle.pfx_book.proofs.Marking.{kept_fail}
use Rattle.pfx_book.proofs.book.Book.fail.Goals as goal

pub invariant_of-self : goal.invariant_of-self
invariant_of-self g c =
    let s = c.self.inside in
    let K = g.J.Job.kind in
    let B = g.B.Named.start in
    let xs = told K B [] s.history.items in
    let pend = map plain (deque_items s.pending) in
    let mine = c.share.inside.token.1 in
    let at = subst (λ k. slice_get s.keeper k ≡ Some mine) c.share.invariant c.note.ensures.known in
    let kept = kept_fail K B xs s.keeper s.passes s.state pend s.taken s.marked s.clock s.failure c.self.invariant.0 mine c.args.cause at in (
      subst (λ (k : List (List (Note g.row.J.Denot))). IsKept K B xs k s.passes s.state pend s.taken s.marked s.clock (Some c.args.cause))
          (sym (c.note.ensures.keeper ∙ ap (λ k. slice_set s.keeper k (mine ++ Failed c.args.cause ∷ [])) c.share.invariant)) kept,
      c.self.invariant.1,
      c.self.invariant.2,
      c.self.invariant.3,
    )
