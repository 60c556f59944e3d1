-- What bytes begin with, and bytes one after the other.
use Rattle.std.specs.Prelude.{◌≡◌, ℕ, List, [], ◌∷◌, ◌++◌}

-- the bytes are the front and some more
pub record Begins (bytes front : List ℕ) : Type 0 where
  pub rest : List ℕ
  pub is : bytes ≡ front ++ rest

-- the bytes of each, one after the other
abbrev pub joined : {X : Type 0} → (X → List ℕ) → List X → List ℕ
joined bytes_of [] = []
joined bytes_of (x ∷ xs) = bytes_of x ++ joined bytes_of xs
