use Rattle.std.proofs.Common.{◌≡◌, ℕ, ◌<◌, pos, slice_index_or, IsTrue}
use Rattle.pfx_choice.proofs.fractions.are_same.Given as goal

abbrev pub invariant-loop-x : goal.invariant-loop-x
invariant-loop-x l = record {
  es : IsTrue l.same → (y : ℕ) → y < l.x → slice_index_or l.es y (pos 0) ≡ slice_index_or l.us y (pos 0);
  ps : IsTrue l.same → (y : ℕ) → y < l.x → slice_index_or l.ps y (pos 0) ≡ slice_index_or l.vs y (pos 0);
}
