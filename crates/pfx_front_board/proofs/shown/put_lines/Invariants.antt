use Rattle.std.proofs.Common.{◌≡◌, take}
use Rattle.std.specs.Prelude.{vec_capacity}
use Rattle.pfx_front_board.proofs.shown.put_lines.Given as goal

abbrev pub invariant-loop-line : goal.invariant-loop-line
invariant-loop-line l = (l.lines.items ≡ take l.line-index l.from) × (vec_capacity l.lines ≡ vec_capacity l.fn.lines)
