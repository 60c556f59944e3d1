use Rattle.std.proofs.Common.{◌≡◌, ◌++◌}
use Rattle.pfx_program_draw.specs.Each.{each}
use Rattle.pfx_program_draw.specs.Frame.{hyper_piece}
use Rattle.pfx_program_draw.proofs.frame.put_hyper_lines.Given as goal

-- the pieces so far were put
abbrev pub invariant-loop-k : goal.invariant-loop-k
invariant-loop-k l = l.text.items ≡ l.fn.text.items ++ each (hyper_piece l.fn.s l.fn.hyper) l.k
