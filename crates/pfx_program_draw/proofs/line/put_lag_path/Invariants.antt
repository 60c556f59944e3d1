use Rattle.std.proofs.Common.{◌≡◌, ◌≤◌, ◌++◌}
use Rattle.pfx_program_draw.specs.Each.{each}
use Rattle.pfx_program_draw.specs.Lags.{runs_in}
use Rattle.pfx_program_draw.specs.Line.{line_piece}
use Rattle.pfx_program_draw.proofs.line.put_lag_path.Given as goal

-- the points after the slots so far were put
abbrev pub invariant-loop-i : goal.invariant-loop-i
invariant-loop-i l = record {
  text : l.text.items ≡ l.initial.text.items ++ each (line_piece l.fn.s l.fn.c l.fn.base l.marks) l.i;
  runs : l.k ≡ runs_in l.marks l.i;
  few : l.k ≤ l.i;
}
