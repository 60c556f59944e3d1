-- What is there for each number below another.
use Rattle.std.specs.Prelude.{ℕ, zero, suc, List, [], ◌++◌, max}

-- the pieces for 0, 1 and so on below n, one after the other
unfoldable pub each : (ℕ → List ℕ) → ℕ → List ℕ
each piece zero = []
each piece (suc n) = each piece n ++ piece n

-- the greatest of these numbers for 0, 1 and so on below n; 0 if there is none
unfoldable pub most : (ℕ → ℕ) → ℕ → ℕ
most of zero = 0
most of (suc n) = max (most of n) (of n)
