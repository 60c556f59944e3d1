use Rattle.std.proofs.Common.{◌≡◌}
use Rattle.pfx_machine.specs.Board.{lines_of}
use Rattle.pfx_machine.proofs.state.State.board.Given as goal

abbrev pub invariant-loop-task : goal.invariant-loop-task
invariant-loop-task g l = l.lines.items ≡ lines_of g.J.Job.kind l.self l.task
