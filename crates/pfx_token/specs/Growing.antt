-- A list that only grows: its rule, and what a step on it tells.
use Rattle.std.specs.Prelude.{ℕ, ◌≡◌, ◌==◌, ◌<◌, true, List, [], ◌∷◌, ◌++◌, length, MatchBool}
use mathlib.Core.List.{IsPrefix}
use Rattle.logbook.specs.Pages.{Cell, Step, View, Book, Named}

-- the word at the head of a book
abbrev pub head_of : Book → Named
head_of b = record { tracked = true; key = 0; book = b }

module _ {E : Type 0} where
  -- ys begins with xs, and goes on
  abbrev pub IsLonger : List E → List E → Type 0
  IsLonger xs ys = IsPrefix xs ys × (length xs < length ys)

  -- the first word is the length of the list. A book has two words, of which this one leaves the second at 0
  pub record IsKept (cells : List Cell) (log : List E) : Type 0 where
    pub words : cells ≡ (length log, true) ∷ (0, true) ∷ []

  -- the entry was added to all that had been seen; or the list was longer, and was seen
  abbrev pub Adds : Step E → View E ℕ → ℕ → View E ℕ → Type 0
  Adds s v found w = MatchBool (found == s.old) (w.0 ≡ v.0 ++ s.ask ∷ []) (length w.0 ≡ found)
