-- The items and the ends of a lane.
use Rattle.std.specs.Prelude.{ℕ, ◌+◌, List, [], ◌∷◌}
use Rattle.pfx_crew.specs.declared.lane.Message.{Message}
use Rattle.pfx_crew.specs.declared.lane.Message.TheVariants.{Item, End}

module _ {T : Type 0} where
  -- the items among messages, without the ends
  abbrev pub items_of : List (Message T) → List T
  items_of [] = []
  items_of (Item x ∷ xs) = x ∷ items_of xs
  items_of (End ∷ xs) = items_of xs

  -- how many ends are among them
  abbrev pub ends_of : List (Message T) → ℕ
  ends_of [] = 0
  ends_of (Item x ∷ xs) = ends_of xs
  ends_of (End ∷ xs) = ends_of xs + 1

-- the items that a thread put in and took out, and how many ends
pub record Hands (T : Type 0) : Type 0 where
  pub put : List T
  pub taken : List T
  pub ends_put : ℕ
  pub ends_taken : ℕ
