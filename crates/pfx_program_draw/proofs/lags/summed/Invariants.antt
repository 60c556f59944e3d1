use Rattle.std.proofs.Common.{◌≡◌, ◌≤◌}
use Rattle.pfx_program_draw.specs.Lags.{behind_at, ahead_at, runs_in}
use Rattle.pfx_program_draw.specs.Each.{most}
use Rattle.pfx_program_draw.proofs.lags.summed.Given as goal

-- what is said of the slots so far
abbrev pub invariant-loop-i : goal.invariant-loop-i
invariant-loop-i l = record {
  runs : l.k ≡ runs_in l.marks l.i;
  few : l.k ≤ l.i;
  behind : l.behind ≡ most (behind_at l.fn.c l.marks) l.i;
  ahead : l.ahead ≡ most (ahead_at l.fn.c l.marks) l.i;
}
