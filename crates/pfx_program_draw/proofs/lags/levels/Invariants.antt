use Rattle.std.proofs.Common.{◌≡◌, ◌≤◌, length}
use Rattle.pfx_program_draw.specs.Lags.{level_piece, runs_in}
use Rattle.pfx_program_draw.specs.Each.{each}
use Rattle.pfx_program_draw.proofs.lags.levels.Given as goal

-- the levels before the slots so far
abbrev pub invariant-loop-i : goal.invariant-loop-i
invariant-loop-i l = record {
  found : l.found.items ≡ each (level_piece l.fn.c l.marks) l.i;
  number : length l.found.items ≡ l.i;
  runs : l.k ≡ runs_in l.marks l.i;
  few : l.k ≤ l.i;
}
