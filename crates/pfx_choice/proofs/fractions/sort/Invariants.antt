use Rattle.std.proofs.Common.{◌≡◌, ℕ, ◌<◌, ◌≤◌, length, slice_index_or}
use Rattle.pfx_columns.specs.Ledgers.{total}
use Rattle.pfx_choice.specs.Kinds.{HaveOneWeight}
use Rattle.pfx_choice.proofs.fractions.sort.Given as goal

abbrev pub invariant-loop-x : goal.invariant-loop-x
invariant-loop-x l = record {
  long : length l.of_tasks.items ≡ l.x;
  few : length l.firsts.items ≤ l.x;
  first : (k : ℕ) → k < length l.firsts.items → slice_index_or l.firsts.items k 0 < total l.ledger;
  within : (y : ℕ) → y < l.x → slice_index_or l.of_tasks.items y 0 < length l.firsts.items;
  same : (y : ℕ) → y < l.x → HaveOneWeight l.ledger y (slice_index_or l.firsts.items (slice_index_or l.of_tasks.items y 0) 0);
}
