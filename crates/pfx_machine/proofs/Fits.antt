-- What the tests of a state say.
use Rattle.std.specs.Prelude.{◌≡◌, ℕ, zero, suc, ◌*◌, length, ◌^◌, ◌<◌, ◌&&◌, nat_lt, Bool, true, false, sum, refl}
use Rattle.std.proofs.Common.{sym, ◌∙◌, subst, arith, eq-eqb, inl, inr}
use Rattle.std.proofs.lemmas.Bool.{cases_lt, lt-ltb, le-ltb, eqb-true, false≢true}
use Rattle.pfx_weights.specs.Sets.{IsFilled, IsOfItsTasks}
use Rattle.pfx_columns.specs.Ledgers.{Ledger, Task, task, total, IsFair, IsFairTask}
use Rattle.pfx_columns.proofs.Steps.{fair_low, fair_high, fair_from}
use Rattle.pfx_machine.specs.Plain.{Plain, whole, IsState}
use Rattle.pfx_machine.specs.Fitting.{is_fair_at, are_fair, fits}

pub and_true : (a b : Bool) → a ≡ true → b ≡ true → (a && b) ≡ true
and_true true true p q = refl
and_true true false p q = absurd (false≢true q)
and_true false b p q = absurd (false≢true p)

pub and_parts : (a b : Bool) → (a && b) ≡ true → (a ≡ true) × (b ≡ true)
and_parts true true h = (refl, refl)
and_parts true false h = absurd (false≢true h)
and_parts false b h = absurd (false≢true h)

pub below : (a b : ℕ) → nat_lt a b ≡ true → a < b
below a b h = elim (cases_lt a b) [
  | inl less ↦ less
  | inr more ↦ absurd (false≢true (sym (le-ltb a b more) ∙ h))
]

fair_test : (t : ℕ) (v : Task) → IsFairTask t v → is_fair_at t v ≡ true
fair_test t v h = and_true _ _ (lt-ltb _ _ (fair_low v.e v.p v.alloc t h)) (lt-ltb _ _ (fair_high v.e v.p v.alloc t h))

test_fair : (t : ℕ) (v : Task) → is_fair_at t v ≡ true → IsFairTask t v
test_fair t v h =
    let parts = and_parts _ _ h in
    fair_from v.e v.p v.alloc t (below _ _ parts.0) (below _ _ parts.1)

fair_tests : (g : Ledger) (n : ℕ) → ((x : ℕ) → x < n → IsFairTask g.slot (task g x)) → are_fair g n ≡ true
fair_tests g zero h = refl
fair_tests g (suc n) h = and_true _ _ (fair_tests g n (λ x l. h x (omega arith))) (fair_test g.slot (task g n) (h n (omega arith)))

tests_fair : (g : Ledger) (n : ℕ) → are_fair g n ≡ true → (x : ℕ) → x < n → IsFairTask g.slot (task g x)
tests_fair g zero h x l = absurd (omega arith)
tests_fair g (suc n) h x l =
    let parts = and_parts _ _ h in
    elim (cases_lt x n) [
      | inl less ↦ tests_fair g n parts.0 x less
      | inr more ↦ (let last : n ≡ x = omega arith in subst (λ k. IsFairTask g.slot (task g k)) last (test_fair g.slot (task g n) parts.1))
    ]

pub record Fitting {J : Type 0} (s : Plain J) : Type 0 where
  pub number : s.number < 2 ^ 48
  pub slot : whole s < 2 ^ 40
  pub fair : IsFair s.ledger
  pub sum : sum s.ledger.allocs ≡ s.ledger.set.workers * s.ledger.slot

pub fits_of : {J : Type 0} (s : Plain J) → Fitting s → fits s ≡ true
unfolding fits
fits_of s h =
    and_true _ _ (and_true _ _ (and_true _ _ (lt-ltb _ _ h.number) (lt-ltb _ _ h.slot)) (fair_tests s.ledger (total s.ledger) h.fair)) (eq-eqb _ _ h.sum)

pub fitting : {J : Type 0} (s : Plain J) → fits s ≡ true → Fitting s
unfolding fits
fitting s h =
    let all = and_parts _ _ h in
    let most = and_parts _ _ all.0 in
    let some = and_parts _ _ most.0 in
    record {
      number = below _ _ some.0;
      slot = below _ _ some.1;
      fair = tests_fair s.ledger (total s.ledger) most.1;
      sum = eqb-true _ _ all.1;
    }

pub state_fits : {J : Type 0} (s : Plain J) → IsState s → Fitting s
state_fits s h = record { number = h.number; slot = h.slot; fair = h.ledger.fair; sum = h.ledger.sum }

pub fitting_state : {J : Type 0} (s : Plain J) → IsOfItsTasks s.ledger.set → IsFilled s.ledger.set → length s.ledger.allocs ≡ length s.ledger.set.weights →
    length s.jobs ≡ s.ledger.set.real → fits s ≡ true → IsState s
fitting_state s of filled long jobs test =
    let h = fitting s test in
    record { number = h.number; slot = h.slot; set = of; ledger = record { set = filled; slot = (let a = h.slot in omega (arith, a)); length = long; fair = h.fair; sum = h.sum }; jobs = jobs }
