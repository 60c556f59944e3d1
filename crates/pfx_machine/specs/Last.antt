-- The last element that passes a test, and what stands behind it.
use Rattle.std.specs.Prelude.{Bool, true, false, if◌then◌else◌, List, [], ◌∷◌, Option, Some, None}

-- the last element that passes a test
abbrev pub last_that : {A : Type 0} → (A → Bool) → List A → Option A
last_that p [] = None
last_that p (x ∷ xs) = elim (last_that p xs) [ Some y ↦ Some y | None ↦ if p x then Some x else None ]

-- with the last element that passes a test behind x, if there is one: what stands behind it, else behind x or from x on
abbrev pub rest_of : {A : Type 0} → Option A → Bool → A → List A → List A → List A
rest_of (Some y) passes x xs rest = rest
rest_of None true x xs rest = xs
rest_of None false x xs rest = x ∷ xs

-- the elements after the last one that passes a test; all of them where none does
abbrev pub behind_last : {A : Type 0} → (A → Bool) → List A → List A
behind_last p [] = []
behind_last p (x ∷ xs) = rest_of (last_that p xs) (p x) x xs (behind_last p xs)
