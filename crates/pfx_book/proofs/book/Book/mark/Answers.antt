use Rattle.std.specs.Prelude.{Some, slice_get, slice_set, map, vec_capacity}
use Rattle.std.specs.VecDeque.{deque_items}
use Rattle.std.proofs.Common.{◌≡◌, ℕ, ◌∷◌, ◌++◌, [], List, length, sym, ap, ◌∙◌, subst, ◌+◌}
use Rattle.pfx_record.specs.Records.{plain}
use Rattle.pfx_book.specs.declared.note.Note.{Note}
use Rattle.pfx_book.specs.declared.note.Note.TheVariants.{Marked}
use Rattle.pfx_book.specs.Notes.{IsRested, records_in}
use Rattle.pfx_book.specs.Register.{Register}
use Rattle.pfx_book.specs.Lines.{told}
use Rattle.pfx_book.specs.Kept.{IsKept}
use Rattle.pfx_book.proofs.Notes.{rested_marked}
use Rattle.pfx_book.proofs.Marking.{kept_mark, fits_later}
use Rattle.pfx_book.proofs.book.Book.mark.Goals as goal

pub invariant_of-self : goal.invariant_of-self
invariant_of-self g c =
    let s = c.self.inside in
    let K = g.J.Job.kind in
    let B = g.B.Named.start in
    let xs = told K B [] s.history.items in
    let pend = map plain (deque_items s.pending) in
    let mine = c.share.inside.token.1 in
    let h = c.self.invariant.0 in
    let at = subst (λ k. slice_get s.keeper k ≡ Some mine) c.share.invariant c.note.ensures.known in
    let kept = kept_mark K B xs s.keeper s.passes s.state pend s.taken s.marked s.clock s.failure h mine c.args.number c.args.clock at
    (c.requires.number ∙ ap (λ (l : List (Note g.row.J.Denot)). B.number + length (records_in l)) (sym c.share.view_is))
    (ap (λ (v : Register g.row.J.Denot). v.failure) c.self.view_is ∙ c.requires.goes_on) in (
      subst (λ (k : List (List (Note g.row.J.Denot))). IsKept K B xs k s.passes s.state pend s.taken s.taken c.args.clock s.failure)
          (sym (c.note.ensures.keeper ∙ ap (λ k. slice_set s.keeper k (mine ++ Marked c.args.number c.args.clock ∷ [])) c.share.invariant)) kept,
      fits_later K s.state B.number s.slot s.marked s.taken (length s.history.items) (vec_capacity s.history) h.is_marked.behind c.self.invariant.1,
      c.self.invariant.2,
      c.self.invariant.3,
    )

pub returns-clause-rested : goal.returns-clause-rested
returns-clause-rested g c =
    let B = g.B.Named.start in
    subst (λ (x : ℕ × List (Note g.row.J.Denot)). IsRested B.number x.1) (sym c.note.ensures.token)
    (rested_marked B.number c.share.inside.token.1 c.args.number c.args.clock (c.requires.number ∙ ap (λ (l : List (Note g.row.J.Denot)). B.number + length (records_in l)) (sym c.share.view_is)))
