-- Whether a caller's numbers are a ledger.
use Rattle.std.specs.Prelude.{◌≡◌, ℕ, ◌<◌, ◌^◌, ◌⊎◌, List, length}
use Rattle.pfx_weights.specs.Sets.{FilledSet, Accepts}
use Rattle.pfx_columns.specs.Ledgers.{Ledger, IsLedger, ledger_at}
use Rattle.pfx_columns.specs.Ledgers as ledger
use Rattle.pfx_columns.specs.declared.faults.LedgerFault.{LedgerFault}
use Rattle.pfx_fault.specs.declared.refusals.Fault.{Fault}
use Rattle.pfx_fault.specs.declared.refusals.Fault.TheVariants as fault
use Rattle.pfx_c.specs.declared.weights.PfxWeight.{PfxWeight}
use Rattle.pfx_choice_refusals.specs.Faults.{fault_of_ledger}
use Rattle.pfx_c.specs.Weights.{pairs_of, SetFails}

-- a slot that can be numbered, and an allocation for each of the set's tasks
pub record HasForm (set : FilledSet) (slot : ℕ) (allocs : List ℕ) : Type 0 where
  pub number : length allocs ≡ length set.weights
  pub numbered : slot < 2 ^ 40

-- a set's slot and allocations aren't of a ledger's form, or are no ledger by a fault of the ledger
abbrev pub LedgerFails : FilledSet → ℕ → List ℕ → Fault → Type 0
LedgerFails set slot allocs f = ((f ≡ fault.BadLedger) × (HasForm set slot allocs → ⊥))
    ⊎ (HasForm set slot allocs × ((l : LedgerFault) × (f ≡ fault_of_ledger l) × ledger.Refuses (ledger_at set slot allocs) l))

-- the set is refused, or it is one and the slot and the allocations are no ledger of it
abbrev pub CheckFails : ℕ → List PfxWeight → ℕ → List ℕ → Fault → Type 0
CheckFails m weights slot allocs f = SetFails m weights f
    ⊎ ((set : FilledSet) × Accepts m (pairs_of weights) set × LedgerFails set slot allocs f)

-- m workers and these weights are a set, and with the slot and the allocations this ledger
pub record IsLedgerOf (m : ℕ) (weights : List PfxWeight) (slot : ℕ) (allocs : List ℕ) (g : Ledger) : Type 0 where
  pub accepted : Accepts m (pairs_of weights) g.set
  pub is : g ≡ ledger_at g.set slot allocs
  pub ledger : IsLedger g

-- m workers and these weights are a set, and the slot and the allocations a ledger of it
abbrev pub IsGiven : ℕ → List PfxWeight → ℕ → List ℕ → Type 0
IsGiven m weights slot allocs = (g : Ledger) × IsLedgerOf m weights slot allocs g
