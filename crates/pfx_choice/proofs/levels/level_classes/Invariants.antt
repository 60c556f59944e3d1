use Rattle.std.proofs.Common.{◌≡◌, ℕ, ◌<◌, ◌≤◌, length, slice_index_or}
use Rattle.pfx_columns.specs.Ledgers.{total}
use Rattle.pfx_choice.specs.Levels.{task_level}
use Rattle.pfx_choice.proofs.levels.level_classes.Given as goal

abbrev pub invariant-loop-x : goal.invariant-loop-x
invariant-loop-x l = record {
  long : length l.classes ≡ total l.ledger;
  done : (y : ℕ) → y < l.x → slice_index_or l.classes y 0 ≡ task_level l.ledger l.q y;
  left : (y : ℕ) → l.x ≤ y → slice_index_or l.classes y 0 ≡ slice_index_or l.initial.classes y 0;
}
