use Rattle.std.proofs.Common.{◌≡◌, ◌++◌}
use Rattle.pfx_program_draw.specs.Each.{each}
use Rattle.pfx_program_draw.specs.Frame.{grid_piece}
use Rattle.pfx_program_draw.proofs.frame.put_grid_lines.Given as goal

-- the pieces so far were put
abbrev pub invariant-loop-i : goal.invariant-loop-i
invariant-loop-i l = l.text.items ≡ l.fn.text.items ++ each (grid_piece l.fn.s) l.i
