use Rattle.std.proofs.Common.{◌≡◌, ◌++◌}
use Rattle.pfx_program_draw.specs.Bars.{bar_piece}
use Rattle.pfx_program_draw.specs.Each.{each}
use Rattle.pfx_program_draw.proofs.bars.put_bars.Given as goal

-- the pieces of the slots so far were put
abbrev pub invariant-loop-i : goal.invariant-loop-i
invariant-loop-i l = l.text.items ≡ l.fn.text.items ++ each (bar_piece l.fn.s l.fn.track l.marks l.fn.mark) l.i
