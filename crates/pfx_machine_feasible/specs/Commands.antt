-- Slots that nothing but the limits refuses.
use Rattle.std.specs.Prelude.{◌+◌, ◌^◌, ⊤, nat_lt, if◌then◌else◌, Option, Some, None, Result, Ok, Err}
use Rattle.pfx_choice.specs.declared.faults.ChoiceFault.TheVariants.{SlotLimit, TooManyUrgent, TooFewEligible}
use Rattle.pfx_machine.specs.Plain.{Plain, whole}
use Rattle.pfx_machine.specs.declared.command.Reply.{Reply}
use Rattle.pfx_machine.specs.declared.faults.MachineFault.{MachineFault}
use Rattle.pfx_machine.specs.declared.faults.MachineFault.TheVariants.{NumberLimit, NoRow}

-- why a state's limits, on numbers and on slots, let no Slot pass; none if they let it pass
abbrev pub limit_fault : {J : Type 0} → Plain J → Option MachineFault
limit_fault s = if nat_lt (s.number + 1) (2 ^ 48) then (if nat_lt (whole s + 1) (2 ^ 40) then None else Some (NoRow SlotLimit)) else Some NumberLimit

-- a refusal that isn't for want of a row
abbrev pub IsNoLackOfRow : MachineFault → Type 0
IsNoLackOfRow (NoRow (TooManyUrgent urgent m)) = ⊥
IsNoLackOfRow (NoRow (TooFewEligible eligible m)) = ⊥
IsNoLackOfRow other = ⊤

-- an answer that no lack of a row made
abbrev pub HadARow : Result Reply MachineFault → Type 0
HadARow (Ok said) = ⊤
HadARow (Err fault) = IsNoLackOfRow fault
