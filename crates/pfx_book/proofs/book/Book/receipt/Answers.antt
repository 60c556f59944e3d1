use Rattle.std.specs.Prelude.{map, vec_capacity}
use Rattle.std.specs.VecDeque.{deque_items}
use Rattle.std.proofs.Common.{ℕ, List, [], ◌∷◌, ◌++◌, ◌<◌, ◌≤◌, ◌+◌, length, refl, sym, ap, ◌∙◌, subst, arith, rules}
use Rattle.pfx_machine.specs.Outcome.{outcome}
use Rattle.pfx_record.specs.Records.{plain}
use Rattle.pfx_events_world.specs.Session.{receipted}
use Rattle.pfx_book.specs.declared.note.Note.{Note}
use Rattle.pfx_book.specs.declared.note.Note.TheVariants.{Receipt}
use Rattle.pfx_book.specs.declared.line.Line.{Line}
use Rattle.pfx_book.specs.declared.line.Line.TheVariants as line
use Rattle.pfx_book.specs.Notes.{greatest, lost_in, commands_of}
use Rattle.pfx_book.specs.Lines.{told}
use Rattle.pfx_book.specs.Kept.{Counts, IsKept}
use Rattle.pfx_book.specs.Register.{Register, register}
use Rattle.pfx_book.specs.Calls.{entered}
use Rattle.pfx_book.proofs.Notes.{greatest_same, lost_more, told_receipt, number_is}
use Rattle.pfx_book.proofs.Keeping.{kept_answer, all_taken, low}
use Rattle.pfx_book.proofs.Marking.{counts_more, fits_wider}
use Rattle.pfx_book.proofs.Showing.{shows_receipt}
use Rattle.pfx_book.proofs.book.Book.receipt.Goals as goal

pub invariant_of-self-2 : goal.invariant_of-self-2
invariant_of-self-2 g c =
    let s = c.self.inside in
    let K = g.J.Job.kind in
    let B = g.B.Named.start in
    let xs = told K B [] s.history.items in
    let pend = map plain (deque_items s.pending) in
    let h = c.self.invariant.0 in
    let p = c.pass.invariant in
    let mine = c.pass.inside.token.1 in
    let k = c.pass.inside.token.0 in
    let n = c.args.number in
    let e : Note g.row.J.Denot = Receipt n s.clock in
    let l : Line g.row.J.Denot = line.Receipt c.pass.inside.number n s.clock in
    let req : n ≤ B.number + s.marked = subst (λ (w : Register g.row.J.Denot). n ≤ B.number + w.session.marked) (sym c.self.view_is) c.requires in
    let all = all_taken K B xs s.keeper s.passes s.state pend s.taken s.marked s.clock s.failure h in
    let mark = low K B xs s.keeper s.passes s.state pend s.taken s.marked s.clock s.failure h in
    let fit : n ≤ (outcome K B (commands_of xs)).number = omega (arith, number_is K B (commands_of xs), all, mark, req) in
    let kept = kept_answer K B xs s.keeper s.passes s.state pend s.taken s.marked s.clock s.failure h k mine e c.note.ensures.known (omega (arith, p.1)) refl refl fit (B.number + s.marked, req, h.is_marked.noted) in
    let items = c.push_reserved.ensures.items ∙ ap (λ v. v ++ l ∷ []) c.make_room.ensures.items in
    let r = ap (told K B []) items ∙ told_receipt K B s.history.items c.pass.inside.number n s.clock ∙ ap (λ (q : ℕ). xs ++ (q, e) ∷ []) p.0 in
    let counts = counts_more K B xs k e s.began s.taken s.width (omega (arith, all)) c.self.invariant.2 in
    let wide : length s.history.items < vec_capacity c.push_reserved.new.self = search rules in
    let later : length c.push_reserved.new.self.items < vec_capacity c.push_reserved.new.self = search rules in (
      subst (λ (q : List (List (Note g.row.J.Denot)) × List (ℕ × Note g.row.J.Denot)). IsKept K B q.1 q.0 s.passes s.state pend s.taken s.marked s.clock s.failure) (λ i. (sym c.note.ensures.keeper i, sym r i)) kept,
      fits_wider K s.state B.number s.slot s.marked (length s.history.items) (vec_capacity s.history) (vec_capacity c.push_reserved.new.self) wide c.self.invariant.1 (length c.push_reserved.new.self.items) later,
      subst (λ q. Counts K B (commands_of q) s.began s.taken s.width) (sym r) counts,
      c.self.invariant.3,
    )

pub invariant_of-pass : goal.invariant_of-pass
invariant_of-pass g c =
    let p = c.pass.invariant in
    let mine = c.pass.inside.token.1 in
    let z = c.note.ensures.token in
    let e : Note g.row.J.Denot = Receipt c.args.number c.self.inside.clock in (
      p.0 ∙ sym (ap (λ x. x.0) z),
      subst (λ (x : ℕ × List (Note g.row.J.Denot)). 0 < x.0) (sym z) p.1,
      p.2 ∙ sym (ap (λ x. greatest x.1) z ∙ greatest_same mine e refl),
      p.3 ∙ sym (ap (λ x. lost_in x.1) z ∙ lost_more mine e refl),
    )

pub returns-clause-receipted : goal.returns-clause-receipted
returns-clause-receipted g c =
    let s = c.self.inside in
    let K = g.J.Job.kind in
    let B = g.B.Named.start in
    let xs = told K B [] s.history.items in
    let p = c.pass.invariant in
    let n = c.args.number in
    let v = c.self.view_is in
    let pv = c.pass.view_is in
    let e : Note g.row.J.Denot = Receipt n s.clock in
    let l : Line g.row.J.Denot = line.Receipt c.pass.inside.number n s.clock in
    let items = c.push_reserved.ensures.items ∙ ap (λ v. v ++ l ∷ []) c.make_room.ensures.items in
    let r = ap (told K B []) items ∙ told_receipt K B s.history.items c.pass.inside.number n s.clock ∙ ap (λ (q : ℕ). xs ++ (q, e) ∷ []) p.0 in
    record {
      event = ap (λ l. register K l s.state s.slot s.taken s.marked s.clock s.passes s.opener s.failure s.shut) r
          ∙ shows_receipt K xs s.state s.slot s.taken s.marked s.clock s.passes s.opener s.failure s.shut c.pass.inside.token.0 n
          ∙ (λ i. entered (pv i).0 (Receipt n (v i).session.marked_at) (receipted n (v i).session) (v i));
      noted = c.note.ensures.token ∙ (λ i. ((pv i).0, (pv i).1 ++ Receipt n (v i).session.marked_at ∷ []));
    }
