-- The program's fault for each fault of a store's file.
use Rattle.pfx_fault.specs.declared.refusals.Fault.{Fault}
use Rattle.pfx_fault.specs.declared.refusals.Fault.TheVariants as fault
use Rattle.pfx_store_header.specs.declared.faults.SegmentSizeFault.{SegmentSizeFault}
use Rattle.pfx_store_header.specs.declared.faults.SegmentSizeFault.TheVariants as size
use Rattle.pfx_store.specs.declared.making.InitFault.{InitFault}
use Rattle.pfx_store.specs.declared.making.InitFault.TheVariants as making
use Rattle.pfx_store_recover.specs.declared.faults.OpenFault.{OpenFault}
use Rattle.pfx_store_recover.specs.declared.faults.OpenFault.TheVariants as opening
use Rattle.pfx_store_recover.specs.declared.faults.Refusal.TheVariants as refusal

-- the fault of a segment's length
abbrev pub fault_of_size : SegmentSizeFault → Fault
fault_of_size (size.SegmentTooSmall least) = fault.SegmentTooSmall least
fault_of_size size.SegmentTooLarge = fault.SegmentTooLarge

-- the fault of a store that isn't made
abbrev pub fault_of_init : InitFault → Fault
fault_of_init (making.SegmentTooSmall least) = fault.SegmentTooSmall least
fault_of_init making.SegmentTooLarge = fault.SegmentTooLarge
fault_of_init making.NotEmpty = fault.NotEmpty
fault_of_init making.Device = fault.Device
fault_of_init making.NoMemory = fault.NoMemory

-- the fault of a store that isn't opened
abbrev pub fault_of_open : OpenFault → Fault
fault_of_open (opening.Refused refusal.NotAStore) = fault.NotAStore
fault_of_open (opening.Refused (refusal.WrongVersion version)) = fault.WrongVersion version
fault_of_open (opening.Refused (refusal.Damaged at what)) = fault.Damaged at what
fault_of_open opening.Device = fault.Device
fault_of_open opening.NoMemory = fault.NoMemory
