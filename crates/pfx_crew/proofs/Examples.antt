-- Worked rows of the definitions.
use Rattle.std.specs.Prelude.{◌≡◌, ◌≢◌, ◌≤◌, ◌<◌, ℕ, zero, suc, [], ◌∷◌, List, Some, None, slice_get, unwrap_or, refl}
use Rattle.std.proofs.Common.{ap, arith}
use Rattle.pfx_machine.specs.Slots.{Deal, deal}
use Rattle.pfx_crew.specs.declared.lane.Message.TheVariants.{Item, End}
use Rattle.pfx_crew.specs.declared.gathering.GatherFault.TheVariants.{Double, Stranger}
use Rattle.pfx_crew.specs.Balance.{hand, Balanced}
use Rattle.pfx_crew.specs.Lane.{items_of}
use Rattle.pfx_crew.specs.Work.{Works}
use Rattle.pfx_crew.specs.Gathering.{Puts, Refuses}
use Rattle.pfx_crew.specs.Laws.{NoTaskTwice}

without_ends : items_of {T = ℕ} (Item 3 ∷ End ∷ Item 4 ∷ []) ≡ 3 ∷ 4 ∷ []
without_ends = refl

-- what equal quanta have in common
state_of : (d e : Deal ℕ) → Some d ≡ Some e → (d.number ≡ e.number) × (d.task ≡ e.task) × (d.before ≡ e.before)
state_of d e is = (ap (λ o. (unwrap_or o d).number) is, ap (λ o. (unwrap_or o d).task) is, ap (λ o. (unwrap_or o d).before) is)

-- one thread put 5 and 7 in, another took 5 out, and 7 is inside
in_balance : Balanced {T = ℕ} (7 ∷ []) (hand (5 ∷ 7 ∷ []) [] ∷ hand [] (5 ∷ []) ∷ [])
in_balance = record { balance = λ h. omega arith }

-- what was put in is neither out nor inside
lost : Balanced {T = ℕ} [] (hand (5 ∷ []) [] ∷ []) → ⊥
lost b = let e = b.balance (λ _. 1) in absurd (omega (arith, e))

-- the quanta of slot 0, which command 3 deals: of tasks 0 and 1, each with the state 5 before
abbrev quanta : List (Deal ℕ)
quanta = deal 3 0 0 5 ∷ deal 3 0 1 5 ∷ []

-- both taken, and the result of the first handed back
one_is_late : Works {J = ℕ} [] quanta [] (deal 3 0 0 5 ∷ [])
one_is_late = (deal 3 0 0 5 ∷ [], deal 3 0 1 5 ∷ [], refl, refl, omega arith)

-- the result of task 1 comes to its place, though it is the first to arrive
second_first : Puts {J = ℕ} {D = ℕ} quanta (deal 3 0 1 5) (None ∷ None ∷ []) (None ∷ Some 6 ∷ []) (Some 6)
second_first = (1, (refl, before), refl, refl)
  where
    before : (i : ℕ) → 0 ≤ i → i < 1 → slice_get quanta i ≢ Some (deal 3 0 1 5)
    before zero from below e = let n = (state_of (deal 3 0 0 5) (deal 3 0 1 5) e).1 in absurd (omega (arith, n))
    before (suc i) from below e = absurd (omega (arith, below))

-- it arrives again
again : Refuses {J = ℕ} {D = ℕ} quanta (deal 3 0 1 5) (None ∷ Some 6 ∷ []) (Double 1)
again = (refl, (1, (refl, before), (λ e. cc (e))))
  where
    before : (i : ℕ) → 0 ≤ i → i < 1 → slice_get quanta i ≢ Some (deal 3 0 1 5)
    before zero from below e = let n = (state_of (deal 3 0 0 5) (deal 3 0 1 5) e).1 in absurd (omega (arith, n))
    before (suc i) from below e = absurd (omega (arith, below))

-- a result of an earlier command, and one of another state before, are of no quantum
earlier : Refuses {J = ℕ} {D = ℕ} quanta (deal 2 0 1 5) (None ∷ None ∷ []) (Stranger 1)
earlier = (refl, nowhere)
  where
    nowhere : (i : ℕ) → 0 ≤ i → slice_get quanta i ≢ Some (deal 2 0 1 5)
    nowhere zero from e = let n = (state_of (deal 3 0 0 5) (deal 2 0 1 5) e).0 in absurd (omega (arith, n))
    nowhere (suc zero) from e = let n = (state_of (deal 3 0 1 5) (deal 2 0 1 5) e).0 in absurd (omega (arith, n))
    nowhere (suc (suc i)) from e = cc (e)

another_state : Refuses {J = ℕ} {D = ℕ} quanta (deal 3 0 1 4) (None ∷ None ∷ []) (Stranger 1)
another_state = (refl, nowhere)
  where
    nowhere : (i : ℕ) → 0 ≤ i → slice_get quanta i ≢ Some (deal 3 0 1 4)
    nowhere zero from e = let n = (state_of (deal 3 0 0 5) (deal 3 0 1 4) e).2 in absurd (omega (arith, n))
    nowhere (suc zero) from e = let n = (state_of (deal 3 0 1 5) (deal 3 0 1 4) e).2 in absurd (omega (arith, n))
    nowhere (suc (suc i)) from e = cc (e)

-- two quanta of one task
twice : NoTaskTwice {J = ℕ} (deal 3 0 1 5 ∷ deal 3 0 1 4 ∷ []) → ⊥
twice apart = let e : 0 ≡ 1 = apart 0 1 (deal 3 0 1 5) (deal 3 0 1 4) refl refl refl in absurd (omega (arith, e))
