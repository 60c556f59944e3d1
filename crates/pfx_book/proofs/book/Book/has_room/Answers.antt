use Rattle.std.proofs.Common.{length, ap, sym, arith}
use Rattle.pfx_book.specs.Register.{Register}
use Rattle.pfx_book.proofs.Keeping.{state_number, all_taken, low}
use Rattle.pfx_book.proofs.Showing.{room_is}
use Rattle.pfx_book.proofs.book.Book.has_room.Goals as goal

pub overflow_add-result : goal.overflow_add-result
overflow_add-result g c =
    let h = c.self.invariant.0 in
    let a = state_number g.J.Job.kind _ _ _ _ _ _ _ _ _ _ h in
    let b = all_taken g.J.Job.kind _ _ _ _ _ _ _ _ _ _ h in
    let l = low g.J.Job.kind _ _ _ _ _ _ _ _ _ _ h in
    omega (arith, a, b, l, c.self.invariant.2.first, c.number.ensures.state.number)

pub returns : goal.returns
returns g c =
    let h = c.self.invariant.0 in
    let a = state_number g.J.Job.kind _ _ _ _ _ _ _ _ _ _ h in
    room_is c.args.self.now.session c.number.result c.self.inside.began c.self.inside.marked
    (ap (λ (v : Register g.row.J.Denot). length v.session.accepted) (sym c.self.view_is)) (ap (λ (v : Register g.row.J.Denot). v.session.marked) (sym c.self.view_is)) (omega (arith, a, c.self.invariant.2.first, c.number.ensures.number))
