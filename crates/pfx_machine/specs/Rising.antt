-- Slots that rise.
use Rattle.std.specs.Prelude.{ℕ, ◌+◌, ◌≤◌, List, [], ◌∷◌, ⊤}

-- each is later than the one before it, and the first isn't before slot n
abbrev pub RisesFrom : ℕ → List ℕ → Type 0
RisesFrom n [] = ⊤
RisesFrom n (slot ∷ slots) = (n ≤ slot) × RisesFrom (slot + 1) slots
