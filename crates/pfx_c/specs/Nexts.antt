-- The next row of a caller's ledger.
use Rattle.std.specs.Prelude.{◌≡◌, ℕ, ◌<◌, ◌≤◌, ◌⊎◌, List, length, take, drop}
use Rattle.pfx_columns.specs.Ledgers.{Ledger}
use Rattle.pfx_choice.specs.Choices.{IsChosen, Fails}
use Rattle.pfx_choice.specs.declared.faults.ChoiceFault.{ChoiceFault}
use Rattle.pfx_fault.specs.declared.refusals.Fault.{Fault}
use Rattle.pfx_fault.specs.declared.refusals.Fault.TheVariants as fault
use Rattle.pfx_c.specs.declared.weights.PfxWeight.{PfxWeight}
use Rattle.pfx_choice_refusals.specs.Faults.{fault_of_choice}
use Rattle.pfx_c.specs.Checks.{CheckFails, IsLedgerOf}

-- the numbers are a ledger, and the caller has places for a row: the first become PF's row there, and the others stay
pub record IsNext (m : ℕ) (weights : List PfxWeight) (slot : ℕ) (allocs old new : List ℕ) : Type 0 where
  pub ledger : Ledger
  pub given : IsLedgerOf m weights slot allocs ledger
  pub room : m ≤ length old
  pub chosen : IsChosen ledger (take m new)
  pub rest : drop m new ≡ drop m old

-- at a ledger the caller has too few places, or no row is chosen
abbrev pub RowFails : ℕ → Ledger → List ℕ → Fault → Type 0
RowFails m g places f = ((f ≡ fault.NoRoom) × (length places < m))
    ⊎ ((m ≤ length places) × ((c : ChoiceFault) × (f ≡ fault_of_choice c) × Fails g c))

-- the numbers are no ledger, or they are one and there is no row for the caller
abbrev pub NextFails : ℕ → List PfxWeight → ℕ → List ℕ → List ℕ → Fault → Type 0
NextFails m weights slot allocs places f = CheckFails m weights slot allocs f
    ⊎ ((g : Ledger) × IsLedgerOf m weights slot allocs g × RowFails m g places f)
