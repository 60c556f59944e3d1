use Rattle.std.proofs.Common.{◌≡◌, ℕ, ◌<◌, ◌≤◌, nat_lt, slice_index_or}
use Rattle.pfx_weights.specs.Rows.{marked_in}
use Rattle.pfx_choice.proofs.marking.mark_below.Given as goal

abbrev pub invariant-loop-x : goal.invariant-loop-x
invariant-loop-x l = record {
  done : (y : ℕ) → y < l.x → marked_in l.places y ≡ nat_lt (slice_index_or l.initial.places y 0) l.d;
  left : (y : ℕ) → l.x ≤ y → slice_index_or l.places y 0 ≡ slice_index_or l.initial.places y 0;
}
