use Rattle.std.proofs.Common.{arith}
use Rattle.pfx_book.proofs.Keeping.{state_number, all_taken, low}
use Rattle.pfx_book.proofs.book.Book.marked.Goals as goal

pub overflow_add-result : goal.overflow_add-result
overflow_add-result g c =
    let h = c.self.invariant.0 in
    let a = state_number g.J.Job.kind _ _ _ _ _ _ _ _ _ _ h in
    let b = all_taken g.J.Job.kind _ _ _ _ _ _ _ _ _ _ h in
    let l = low g.J.Job.kind _ _ _ _ _ _ _ _ _ _ h in
    omega (arith, a, b, l, c.self.invariant.2.first, c.number-number.ensures.state.number)
