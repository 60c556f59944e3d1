use Rattle.std.proofs.Common.{◌≡◌, ◌++◌}
use Rattle.pfx_program_draw.specs.Each.{each}
use Rattle.pfx_program_draw.specs.Frame.{number_piece}
use Rattle.pfx_program_draw.proofs.frame.put_numbers.Given as goal

-- the pieces so far were put
abbrev pub invariant-loop-i : goal.invariant-loop-i
invariant-loop-i l = l.text.items ≡ l.fn.text.items ++ each (number_piece l.fn.s) l.i
