use Rattle.std.proofs.Common.{◌≡◌}
use Rattle.pfx_program_draw.specs.Drawing.{digits}
use Rattle.pfx_program_draw.specs.Each.{most}
use Rattle.pfx_program_draw.proofs.drawing.most_digits.Given as goal

abbrev pub invariant-loop-x : goal.invariant-loop-x
invariant-loop-x l = l.most ≡ most (digits l.ledger) l.x
