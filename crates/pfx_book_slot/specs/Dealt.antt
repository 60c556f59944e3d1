-- An open slot: what was dealt, and what is back.
use Rattle.std.specs.Prelude.{◌≡◌, ◌≢◌, ◌<◌, slice_get, ℕ, List, [], ◌∷◌, Option, Some, None, ⊤, map, option_map, ◌+◌, ◌^◌, Ok}
use Rattle.pfx_jobs.specs.Kind.{Kind}
use Rattle.pfx_machine.specs.Plain.{Plain}
use Rattle.pfx_machine.specs.Choosing.{row_in}
use Rattle.pfx_machine.specs.Refusals.{refusal}
use Rattle.pfx_machine.specs.declared.command.Command.TheVariants as command
use Rattle.pfx_machine.specs.Slots.{Deal, deals_in}
use Rattle.pfx_record.specs.declared.record.Place.{Place}
use Rattle.pfx_record_redo.specs.Recording.{after_in}

-- the row, the quanta, and for each of them its result if it is back (a result is its quantum, stepped)
pub record Dealt (J : Type 0) : Type 0 where
  pub row : List ℕ
  pub quanta : List (Deal J)
  pub back : List (Option (Deal J))

module _ {J : Type 0} where
  -- as many places as quanta, and each result is its quantum's
  abbrev pub Answers : List (Deal J) → List (Option (Deal J)) → Type 0
  Answers [] [] = ⊤
  Answers [] (b ∷ back) = ⊥
  Answers (q ∷ quanta) [] = ⊥
  Answers (q ∷ quanta) (None ∷ back) = Answers quanta back
  Answers (q ∷ quanta) (Some d ∷ back) = (d ≡ q) × Answers quanta back

  -- no place is empty
  abbrev pub AllBack : List (Option (Deal J)) → Type 0
  AllBack [] = ⊤
  AllBack (None ∷ back) = ⊥
  AllBack (Some d ∷ back) = AllBack back

  -- the first quantum whose place is empty
  abbrev pub IsMissing : List (Deal J) → List (Option (Deal J)) → Deal J → Type 0
  IsMissing quanta back d = (i : ℕ) × (slice_get quanta i ≡ Some d) × (slice_get back i ≡ Some None) × ((k : ℕ) → k < i → slice_get back k ≢ Some None)

  -- the places of a row, with the states that these quanta have for them
  abbrev pub places_with : Kind J → List ℕ → List (Deal J) → List (Place J)
  places_with K row quanta = map (λ x. record { task = x; state = after_in K x quanta }) row

-- the slot is the one that may be run next in this state: its row is PF's, its quanta are those of the state's jobs
pub record StandsAt {J : Type 0} (K : Kind J) (s : Plain J) (o : Dealt J) : Type 0 where
  pub number : s.number + 1 < 2 ^ 48
  pub row : row_in s ≡ Ok o.row
  pub quanta : o.quanta ≡ deals_in K s o.row
  pub accepted : refusal K s command.Slot ≡ None
