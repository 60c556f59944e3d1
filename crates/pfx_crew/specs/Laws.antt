-- What gathering comes to, in whatever order the results of a slot arrive.
use Rattle.std.specs.Prelude.{◌≡◌, ℕ, List, [], ◌∷◌, ◌++◌, Option, Some, None, map, slice_get}
use Rattle.pfx_machine.specs.Slots.{Deal}
use Rattle.pfx_crew.specs.declared.gathering.GatherFault.{GatherFault}
use Rattle.pfx_crew.specs.Gathering.{Puts, Refuses}

-- no two of these quanta are of one task
abbrev pub NoTaskTwice : {J : Type 0} → List (Deal J) → Type 0
NoTaskTwice {J} quanta = (i j : ℕ) (d e : Deal J) → slice_get quanta i ≡ Some d → slice_get quanta j ≡ Some e → d.task ≡ e.task → i ≡ j

module _ {J D : Type 0} where
  -- a free place for each quantum
  abbrev pub free : List (Deal J) → List (Option D)
  free quanta = map (λ _. None) quanta

  -- results arrive one after the other, and each is put at its free place; asked x is the quantum that x is the result of
  abbrev pub Arrive : (D → Deal J) → List (Deal J) → List D → List (Option D) → List (Option D) → Type 0
  Arrive asked quanta [] old new = new ≡ old
  Arrive asked quanta (x ∷ xs) old new = (between : List (Option D)) × Puts quanta (asked x) old between (Some x) × Arrive asked quanta xs between new

  -- the results of a slot's quanta, in the quanta's order, arrive in another order: none of them is refused, and when all are
  -- there each place has its quantum's result
  pub record ComeOut (asked : D → Deal J) (results arrivals : List D) : Type 0 where
    pub none_refused : (front : List D) (x : D) (rest : List D) (places : List (Option D)) (fault : GatherFault) → arrivals ≡ front ++ x ∷ rest
        → Arrive asked (map asked results) front (free (map asked results)) places → Refuses (map asked results) (asked x) places fault → ⊥
    pub all_placed : (places : List (Option D)) → Arrive asked (map asked results) arrivals (free (map asked results)) places → places ≡ map Some results
