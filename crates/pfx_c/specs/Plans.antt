-- Plans laid into a caller's places.
use Rattle.std.specs.Prelude.{◌≡◌, ◌≢◌, ℕ, ◌*◌, ◌<◌, ◌≤◌, ◌⊎◌, List, [], ◌∷◌, ◌++◌, length, drop}
use Rattle.pfx_weights.specs.Rows.{Schedule}
use Rattle.pfx_columns.specs.Ledgers.{Ledger, ledger_at}
use Rattle.pfx_choice.specs.Choices.{Fails}
use Rattle.pfx_choice.specs.Plans.{past, IsPlan}
use Rattle.pfx_choice.specs.Schedules.{EndsWithin}
use Rattle.pfx_choice.specs.declared.faults.ChoiceFault.{ChoiceFault}
use Rattle.pfx_choice.specs.declared.faults.ChoiceFault.TheVariants.{SlotLimit, NoMemory}
use Rattle.pfx_fault.specs.declared.refusals.Fault.{Fault}
use Rattle.pfx_fault.specs.declared.refusals.Fault.TheVariants as fault
use Rattle.pfx_fault.specs.Refusals.{number_of}
use Rattle.pfx_c.specs.declared.weights.PfxWeight.{PfxWeight}
use Rattle.pfx_c.specs.Faults.{IsRefused}
use Rattle.pfx_choice_refusals.specs.Faults.{fault_of_choice}
use Rattle.pfx_c.specs.Checks.{CheckFails, IsLedgerOf}

-- the rows one behind the other
abbrev pub laid : Schedule → List ℕ
laid [] = []
laid (row ∷ rows) = row ++ laid rows

-- of the ledger g a plan of so many rows is laid into the places from the front on, the rest are as they were, and the ledger
-- becomes the one that the rows leave
pub record IsPlanned (g next : Ledger) (made : ℕ) (old new : List ℕ) : Type 0 where
  pub rows : Schedule
  pub number : length rows ≡ made
  pub plan : IsPlan g rows
  pub leads : next ≡ past g rows
  pub placed : new ≡ laid rows ++ drop (length (laid rows)) old

-- a plan from g on of so many slots ends after these rows, at the ledger `next`, by this fault; unless that is the last slot of
-- all or an allocation failed, no fair schedule from g on is longer
pub record EndsEarly (g next : Ledger) (slots made : ℕ) (f : ChoiceFault) : Type 0 where
  pub early : made < slots
  pub why : Fails next f
  pub only : f ≢ SlotLimit → f ≢ NoMemory → EndsWithin g made

-- what a caller of a plan keeps
pub record Kept : Type 0 where
  pub slot : ℕ
  pub allocs : List ℕ
  pub places : List ℕ

abbrev pub kept : ℕ → List ℕ → List ℕ → Kept
kept slot allocs places = record { slot = slot; allocs = allocs; places = places }

-- the caller's numbers were a ledger, with places for so many slots; a plan of these rows was laid there, and the ledger taken along
pub record IsTaken (m : ℕ) (weights : List PfxWeight) (slots : ℕ) (old new : Kept) (made : ℕ) (g next : Ledger) : Type 0 where
  pub given : IsLedgerOf m weights old.slot old.allocs g
  pub room : slots * m ≤ length old.places
  pub is : next ≡ ledger_at g.set new.slot new.allocs
  pub planned : IsPlanned g next made old.places new.places

-- the numbers are no ledger, or they are one and the caller has too few places
abbrev pub PlanFails : ℕ → List PfxWeight → ℕ → Kept → Fault → Type 0
PlanFails m weights slots old f = CheckFails m weights old.slot old.allocs f
    ⊎ ((g : Ledger) × IsLedgerOf m weights old.slot old.allocs g × (f ≡ fault.NoRoom) × (length old.places < slots * m))

-- all rows were made
abbrev pub IsWhole : ℕ → List PfxWeight → ℕ → Kept → Kept → ℕ → Type 0
IsWhole m weights slots old new made = (made ≡ slots) × ((g next : Ledger) × IsTaken m weights slots old new made g next)

-- nothing was made, for a refusal that holds
abbrev pub IsNothing : ℕ → List PfxWeight → ℕ → ℕ → Kept → Kept → ℕ → Type 0
IsNothing m weights slots number old new made = (made ≡ 0) × (new ≡ old) × IsRefused number (PlanFails m weights slots old)

-- the rows before the slot at which no row is chosen were made
abbrev pub IsBeginning : ℕ → List PfxWeight → ℕ → ℕ → Kept → Kept → ℕ → Type 0
IsBeginning m weights slots number old new made =
    (g next : Ledger) × IsTaken m weights slots old new made g next
    × ((c : ChoiceFault) × (number ≡ number_of (fault_of_choice c)) × EndsEarly g next slots made c)

-- not all rows were made
abbrev pub IsCut : ℕ → List PfxWeight → ℕ → ℕ → Kept → Kept → ℕ → Type 0
IsCut m weights slots number old new made = IsNothing m weights slots number old new made ⊎ IsBeginning m weights slots number old new made
