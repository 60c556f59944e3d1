use Rattle.std.proofs.Common.{◌≡◌, ℕ, ◌<◌, ◌≤◌, ◌-◌, ◌||◌, ◌==◌, length, slice_index_or}
use Rattle.pfx_weights.specs.Rows.{marked_in}
use Rattle.pfx_choice.proofs.levels.mark_first.Given as goal

abbrev pub invariant-first : goal.invariant-first
invariant-first l = record {
  long : length l.levels ≡ length l.initial.levels;
  within : l.x ≤ length l.levels;
  here : l.x < length l.levels → slice_index_or l.levels l.x 0 ≡ 0;
  done : (y : ℕ) → y < l.x → marked_in l.levels y ≡ (marked_in l.initial.levels y || (slice_index_or l.initial.levels y 0 == 0));
  left : (y : ℕ) → l.x ≤ y → slice_index_or l.levels y 0 ≡ slice_index_or l.initial.levels y 0;
}

abbrev pub decreases-first : goal.decreases-first
decreases-first l = length l.levels - l.x
