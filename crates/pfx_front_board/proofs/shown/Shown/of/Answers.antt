use Rattle.std.proofs.Common.{◌≡◌, ◌≤◌, length, ap, sym, ◌∙◌, arith}
use Rattle.std.specs.Prelude.{vec_capacity}
use Rattle.pfx_columns.specs.Ledgers.{total}
use Rattle.pfx_front_board.proofs.Boards.{length-lines}
use Rattle.pfx_front_board.proofs.shown.Shown.of.Goals as goal

pub put_lines-requires : goal.put_lines-requires
put_lines-requires g c =
    let s = c.args.state.now in
    let shown : length c.deref.result.now ≡ total s.ledger = ap length (c.deref.ensures.value ∙ c.in_ok-number.ensures.lines) ∙ length-lines g.J.Job.kind s (total s.ledger) in
    let led = ap (λ l. total l) c.columns.ensures in
    let few = c.total-total.ensures.ledger.set.number in
    let room = c.in_ok-room.ensures.capacity in
    omega (arith, shown, few, room, led)
