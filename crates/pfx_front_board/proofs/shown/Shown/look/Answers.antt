use Rattle.std.proofs.Common.{ap, sym, ◌∙◌, arith}
use Rattle.pfx_front_board.specs.Word.{last_of}
use Rattle.pfx_front_board.proofs.Boards.{board_number}
use Rattle.pfx_front_board.proofs.Words.{last_begins}
use Rattle.pfx_front_board.proofs.shown.Shown.look.Goals as goal

pub returns-clause-number : goal.returns-clause-number
returns-clause-number g c =
    let o = g.B.Begun.origin in
    board_number g.J.Job.kind o c.self.inside.word c.self.inside.board c.self.invariant.0 ∙ sym (ap (last_of o) c.again.ensures)

pub returns-clause-least : goal.returns-clause-least
returns-clause-least g c =
    let o = g.B.Begun.origin in
    let number = board_number g.J.Job.kind o c.self.inside.word c.self.inside.board c.self.invariant.0 in
    omega (arith, number, last_begins o c.args.known.now c.self.inside.word c.if-not-begins.ensures.begins)
