-- Many steps, one after the other.
use Rattle.std.specs.Prelude.{ℕ}
use Rattle.std.proofs.Common.{zero, suc}

-- a function applied n times
abbrev pub times : {A : Type 0} → ℕ → (A → A) → A → A
times zero f a = a
times (suc n) f a = f (times n f a)
