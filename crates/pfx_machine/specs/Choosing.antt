-- The row of a state's next slot.
use Rattle.std.specs.Prelude.{ℕ, ◌+◌, ◌^◌, nat_lt, if◌then◌else◌, List, Result, Err}
use Rattle.pfx_columns.specs.Ledgers.{Ledger}
use Rattle.pfx_choice.specs.PfRows.{pf_row}
use Rattle.pfx_choice.specs.declared.faults.ChoiceFault.{ChoiceFault}
use Rattle.pfx_choice.specs.declared.faults.ChoiceFault.TheVariants.{SlotLimit}
use Rattle.pfx_machine.specs.Plain.{Plain, whole}

-- PF's row at a ledger, unless the slot, counted from the first one of all, is the last
abbrev pub row_at : ℕ → Ledger → Result (List ℕ) ChoiceFault
row_at slot g = if nat_lt (slot + 1) (2 ^ 40) then pf_row g else Err SlotLimit

abbrev pub row_in : {J : Type 0} → Plain J → Result (List ℕ) ChoiceFault
row_in s = row_at (whole s) s.ledger
