use Rattle.std.proofs.Common.{◌≡◌, ◌<◌, ℕ, Some, length, ◌-◌}
use Rattle.std.specs.Prelude.{slice_get}
use Rattle.pfx_front.specs.Closing.{IsTold}
use Rattle.pfx_front.proofs.closing.are_told.Given as goal

abbrev pub invariant-loop-i : goal.invariant-loop-i
invariant-loop-i g l = (k : ℕ) → (p : _) → k < l.i → slice_get l.passes k ≡ Some p → IsTold l.failure l.last p

abbrev pub decreases-loop-i : goal.decreases-loop-i
decreases-loop-i g l = length l.passes - l.i
