use Rattle.std.proofs.Common.{◌≡◌, ◌+◌, ℕ, List, length, sym, subst, arith}
use Rattle.pfx_book.specs.Notes.{IsRested, Noted, records_in}
use Rattle.pfx_book.specs.declared.note.Note.{Note}
use Rattle.pfx_book.specs.declared.note.Note.TheVariants.{Marked}
use Rattle.pfx_trial_book.proofs.flusher.Flusher.take.Goals as goal

pub take_batch-requires-clause-rested : goal.take_batch-requires-clause-rested
take_batch-requires-clause-rested g c =
    let B = g.B.Named.start in
    let share = c.args.self.now.share in
    let b = c.args.book.now.session in
    let all : B.number + b.marked ≡ B.number + length (records_in share) = omega (arith, c.if-marked-last.false, c.marked-marked.ensures, c.args.self.now.last_is) in
    subst (λ (l : List (Note g.row.J.Denot)). IsRested B.number l) (sym c.settled.ensures.same.1)
    (b.marked_at, subst (λ (n : ℕ). Noted (Marked n b.marked_at) share) all c.settled.ensures.mark)
