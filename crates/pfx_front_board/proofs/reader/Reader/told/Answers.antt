use Rattle.std.proofs.Common.{arith}
use Rattle.pfx_front_board.proofs.Words.{last_begins}
use Rattle.pfx_front_board.proofs.reader.Reader.told.Goals as goal

pub returns-clause-number : goal.returns-clause-number
returns-clause-number g c =
    let more = last_begins g.B.Begun.origin c.args.receipt.now.word c.hear.new.self c.hear.ensures.told in
    omega (arith, c.args.receipt.now.reaches, more)
