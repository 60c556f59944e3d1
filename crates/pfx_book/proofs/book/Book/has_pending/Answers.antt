use Rattle.std.specs.Prelude.{nat_eq}
use Rattle.std.specs.VecDeque.{deque_items}
use Rattle.std.proofs.Common.{◌≡◌, ◌+◌, [], length, ap, sym, ◌∙◌, arith, rules, deque_len}
use Rattle.pfx_record.specs.Records.{plain}
use Rattle.pfx_book.specs.Register.{Register}
use Rattle.pfx_book.specs.Lines.{told}
use Rattle.pfx_book.specs.Notes.{commands_of}
use Rattle.pfx_book.proofs.Keeping.{all_taken}
use Rattle.pfx_book.proofs.Showing.{pending_is}
use Rattle.pfx_book.proofs.Taking.{length_map}
use Rattle.pfx_book.proofs.book.Book.has_pending.Goals as goal

pub returns : goal.returns
returns g c =
    let s = c.self.inside in
    let all = all_taken g.J.Job.kind _ _ _ _ _ _ _ _ _ _ c.self.invariant.0 in
    let count : length (commands_of (told g.J.Job.kind g.B.Named.start [] s.history.items)) ≡ s.taken + length (deque_items s.pending) = omega (arith, all, length_map plain (deque_items s.pending)) in
    let long : deque_len s.pending ≡ length (deque_items s.pending) = search rules in
    pending_is c.args.self.now.session c.is_empty.result (length (deque_items s.pending))
    (ap (λ (v : Register g.row.J.Denot). length v.session.accepted) (sym c.self.view_is)) (ap (λ (v : Register g.row.J.Denot). v.session.taken) (sym c.self.view_is)) count (c.is_empty.ensures ∙ ap (λ n. nat_eq n 0) long)
