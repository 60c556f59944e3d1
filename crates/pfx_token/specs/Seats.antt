-- Tokens, each with a number and a list, and the keeper that knows all lists.
use Rattle.std.specs.Prelude.{◌≡◌, ℕ, List, [], ◌∷◌, ◌++◌, length, slice_get, slice_set, Some, true, false}
use mathlib.Core.Option.{Option, none, some}
use lib.ListN.{get_elem?}
use Rattle.atomic_table.specs.Table.{State, Me, Step}
use Rattle.atomic_table.specs.Seated.{TableId}
use Rattle.pfx_token.specs.declared.seats.View.{View}

-- the name of no table
abbrev pub no_table : TableId
no_table = record { words = 0; slots = 0; views_name = 0; atom = 0; block = 0; offset = 0; slot_names = [] }

module _ {E : Type 0} where
  abbrev pub keeper : List (List E) → View E
  keeper lists = record { keeps = true; lists = lists; claims = false; number = 0; mine = [] }

  abbrev pub token : ℕ → List E → View E
  token number mine = record { keeps = false; lists = []; claims = true; number = number; mine = mine }

  abbrev pub nobody : View E
  nobody = record { keeps = false; lists = []; claims = false; number = 0; mine = [] }

  abbrev pub with_one_more : View E → View E
  with_one_more v = record { keeps = v.keeps; lists = v.lists ++ [] ∷ []; claims = v.claims; number = v.number; mine = v.mine }

  abbrev pub next_token : View E → View E
  next_token v = token (length v.lists) []

  -- the keeper with a token in hand
  abbrev pub holding : View E → View E → View E
  holding v w = record { keeps = v.keeps; lists = v.lists; claims = w.claims; number = w.number; mine = w.mine }

  abbrev pub let_go : View E → View E
  let_go v = record { keeps = v.keeps; lists = v.lists; claims = false; number = 0; mine = [] }

  abbrev pub held : View E → View E
  held v = record { keeps = false; lists = []; claims = v.claims; number = v.number; mine = v.mine }

  -- what the rule says of one view: one seat at most knows all lists, and one at most claims a number, with the list that stands there
  abbrev pub Fits : ℕ → (ℕ → ℕ) → List (List E) → ℕ → View E → Type 0
  Fits seat owner lists by v =
      (v.keeps ≡ true → (by ≡ seat) × (v.lists ≡ lists))
      × (v.claims ≡ true → (owner v.number ≡ by) × (slice_get lists v.number ≡ Some v.mine))

  abbrev pub Kept : List (View E) → Type 0
  Kept views =
      (seat : ℕ) × (owner : ℕ → ℕ) × (lists : List (List E))
      × ((by : ℕ) (v : View E) → get_elem? views by ≡ some v → Fits seat owner lists by v)

  abbrev pub KeptIn : State E (View E) → Type 0
  KeptIn s = Kept s.views

  abbrev pub said_list : Option E → List E
  said_list none = []
  said_list (some x) = x ∷ []

  -- with what was said after the list in hand
  abbrev pub with_entry : View E → List E → View E
  with_entry v xs = record { keeps = v.keeps; lists = slice_set v.lists v.number (v.mine ++ xs); claims = v.claims; number = v.number; mine = v.mine ++ xs }

  abbrev pub Added : Step E → Me E (View E) → ℕ → Me E (View E) → Type 0
  Added st me n after = (after ≡ (with_entry me.0 (said_list st.said), me.1)) × (slice_get me.0.lists me.0.number ≡ Some me.0.mine)

  abbrev pub Learned : Step E → Me E (View E) → ℕ → Me E (View E) → Type 0
  Learned st me n after = (after ≡ me) × (slice_get me.0.lists me.0.number ≡ Some me.0.mine)
