-- The row of a state's next slot is the one that is chosen at its ledger.
use Rattle.std.specs.Prelude.{◌≡◌, ℕ, ◌+◌, ◌<◌, ◌≤◌, ◌^◌, List, Ok, Err}
use Rattle.std.proofs.Common.{sym, ◌∙◌, arith, inl, inr}
use Rattle.std.proofs.lemmas.Bool.{cond-true, cond-false, cases_lt, lt-ltb, le-ltb}
use Rattle.pfx_choice.specs.PfRows.{chosen}
use Rattle.pfx_choice.specs.declared.faults.ChoiceFault.TheVariants.{SlotLimit}
use Rattle.pfx_machine.specs.Plain.{Plain, whole}
use Rattle.pfx_machine.specs.Choosing.{row_in}

-- below the limit the two agree
pub row_same : {J : Type 0} (s : Plain J) → whole s + 1 < 2 ^ 40 → row_in s ≡ chosen s.ledger
row_same s less = cond-true _ _ _ (lt-ltb _ _ less) ∙ sym (cond-true _ _ _ (lt-ltb (s.ledger.slot + 1) (2 ^ 40) (omega (arith, less))))

-- at the limit there is none
pub row_none : {J : Type 0} (s : Plain J) → 2 ^ 40 ≤ whole s + 1 → row_in s ≡ Err SlotLimit
row_none s more = cond-false _ _ _ (le-ltb _ _ more)

pub row_below : {J : Type 0} (s : Plain J) (row : List ℕ) → row_in s ≡ Ok row → whole s + 1 < 2 ^ 40
row_below s row is = elim (cases_lt (whole s + 1) (2 ^ 40)) [
  | inl less ↦ less
  | inr more ↦ absurd (let no : Err SlotLimit ≡ Ok row = sym (row_none s more) ∙ is in cc)
]

pub row_chosen : {J : Type 0} (s : Plain J) (row : List ℕ) → row_in s ≡ Ok row → chosen s.ledger ≡ Ok row
row_chosen s row is = sym (row_same s (row_below s row is)) ∙ is
