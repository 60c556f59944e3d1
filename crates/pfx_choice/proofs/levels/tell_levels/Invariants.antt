use Rattle.std.proofs.Common.{◌≡◌, ℕ, ◌<◌, length, slice_index_or}
use Rattle.pfx_choice.specs.Levels.{string_level}
use Rattle.pfx_choice.proofs.levels.tell_levels.Given as goal

abbrev pub invariant-loop-k : goal.invariant-loop-k
invariant-loop-k l = record {
  long : length l.levels ≡ length l.firsts;
  told : (j : ℕ) → j < l.k → slice_index_or l.levels j 0 ≡ string_level l.ledger (slice_index_or l.firsts l.pivot 0) (slice_index_or l.firsts j 0);
}
