-- The program's fault for each refusal of a task set, of a ledger and of a slot.
use Rattle.pfx_weights.specs.declared.faults.SetFault.{SetFault}
use Rattle.pfx_weights.specs.declared.faults.SetFault.TheVariants as setfault
use Rattle.pfx_columns.specs.declared.faults.LedgerFault.{LedgerFault}
use Rattle.pfx_columns.specs.declared.faults.LedgerFault.TheVariants as ledgerfault
use Rattle.pfx_choice.specs.declared.faults.ChoiceFault.{ChoiceFault}
use Rattle.pfx_choice.specs.declared.faults.ChoiceFault.TheVariants as choicefault
use Rattle.pfx_fault.specs.declared.refusals.Fault.{Fault}
use Rattle.pfx_fault.specs.declared.refusals.Fault.TheVariants as fault

-- the fault of a task set that is refused
abbrev pub fault_of_set : SetFault → Fault
fault_of_set setfault.NoTasks = fault.NoTasks
fault_of_set setfault.TooManyTasks = fault.TooManyTasks
fault_of_set setfault.BadWorkers = fault.BadWorkers
fault_of_set (setfault.BadWeight task) = fault.BadWeight task
fault_of_set (setfault.HyperperiodTooLarge task) = fault.HyperperiodTooLarge task
fault_of_set setfault.Overload = fault.Overload
fault_of_set setfault.NoMemory = fault.NoMemory

-- the fault of allocations that are no ledger
abbrev pub fault_of_ledger : LedgerFault → Fault
fault_of_ledger (ledgerfault.OutOfRange task) = fault.OutOfRange task
fault_of_ledger ledgerfault.WrongSum = fault.WrongSum
fault_of_ledger ledgerfault.NoMemory = fault.NoMemory

-- the fault of a slot that has no row
abbrev pub fault_of_choice : ChoiceFault → Fault
fault_of_choice choicefault.SlotLimit = fault.SlotLimit
fault_of_choice (choicefault.TooManyUrgent urgent m) = fault.TooManyUrgent urgent m
fault_of_choice (choicefault.TooFewEligible eligible m) = fault.TooFewEligible eligible m
fault_of_choice choicefault.NoMemory = fault.NoMemory
