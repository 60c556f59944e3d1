use Rattle.std.specs.Prelude.{None, slice_set, map}
use Rattle.std.proofs.Common.{◌≡◌, ◌++◌, ◌∷◌, [], ℕ, List, length, sym, subst, ap, ◌∙◌, arith, rules}
use Rattle.pfx_machine.specs.Plain.{Plain}
use Rattle.pfx_machine.proofs.Compose.{outcome-none}
use Rattle.pfx_record.specs.Records.{plain, Recorded}
use Rattle.pfx_book.specs.declared.note.Note.{Note}
use Rattle.pfx_book.specs.declared.note.Note.TheVariants.{Marked}
use Rattle.pfx_book.specs.declared.line.Line.{Line}
use Rattle.pfx_book.specs.Lines.{told}
use Rattle.pfx_book.specs.Kept.{Counts, IsKept}
use Rattle.pfx_book.specs.Notes.{IsRested, commands_of}
use Rattle.pfx_book.proofs.Notes.{rested_marked}
use Rattle.pfx_book.proofs.Marking.{kept_new}
use Rattle.pfx_book.proofs.book.Book.new.Goals as goal

pub invariant_of-book : goal.invariant_of-book
invariant_of-book g c =
    let K = g.J.Job.kind in
    let B = g.B.Named.start in
    let u = c.in_ok-state.state in
    let n = c.number-began.result in
    let e : Note g.row.J.Denot = Marked n c.args.clock in
    let same = c.in_ok-state.ensures ∙ c.requires.start in
    let t = c.issue-token.ensures.token in
    let k = c.issue-token.ensures.keeper ∙ ap (λ l. l ++ [] ∷ []) c.named-keeper.ensures in
    let zero : c.issue-token.result.0 ≡ 0 = ap (λ x. x.0) t ∙ ap length c.named-keeper.ensures in
    let lists : c.note.new.self ≡ (e ∷ []) ∷ [] = c.note.ensures.keeper ∙ (λ i. slice_set (k i) (zero i) ((ap (λ x. x.1) t) i ++ e ∷ [])) in
    let width : c.workers-width.result ≡ u.ledger.set.workers = search rules in
    let kept = kept_new K B u c.note.new.self n c.args.clock same c.number-began.ensures.state c.number-began.ensures.number lists in (
      subst (λ (q : List (Line g.row.J.Denot) × List (Recorded g.row.J.Denot)). IsKept K B (told K B [] q.0) c.note.new.self 0 u q.1 0 0 c.args.clock None)
          (λ i. (sym c.new.ensures.items i, sym (ap (map plain) c.in_ok-pending.ensures.items) i)) kept,
      tt,
      subst (λ (l : List (Line g.row.J.Denot)). Counts K B (commands_of (told K B [] l)) n 0 c.workers-width.result) (sym c.new.ensures.items) (record {
        first = c.number-began.ensures.number ∙ ap (λ (z : Plain g.row.J.Denot). z.number) same;
        here = width ∙ ap (λ (z : Plain g.row.J.Denot). z.ledger.set.workers) (same ∙ sym (outcome-none K B));
      }),
      c.in_ok-pending.ensures.capacity,
    )

pub returns-clause-rested : goal.returns-clause-rested
returns-clause-rested g c =
    let B = g.B.Named.start in
    let n = c.number-began.result in
    let e : Note g.row.J.Denot = Marked n c.args.clock in
    let same = c.in_ok-state.ensures ∙ c.requires.start in
    let at : n ≡ B.number = c.number-began.ensures.number ∙ ap (λ (z : Plain g.row.J.Denot). z.number) same in
    subst (λ (x : ℕ × List (Note g.row.J.Denot)). IsRested B.number x.1) (sym c.note.ensures.token)
    (subst (λ (x : ℕ × List (Note g.row.J.Denot)). IsRested B.number (x.1 ++ e ∷ [])) (sym c.issue-token.ensures.token) (rested_marked B.number [] n c.args.clock (omega (arith, at))))
