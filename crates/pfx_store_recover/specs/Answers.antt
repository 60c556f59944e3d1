-- What an answer says of the bytes that were read.
use Rattle.std.specs.Prelude.{◌≡◌, ⊤, Result, Ok, Err}
use Rattle.pfx_store_image.specs.Refusals as means
use Rattle.pfx_segment.specs.declared.fault.ReadFault.{ReadFault}
use Rattle.pfx_segment.specs.declared.fault.ReadFault.TheVariants as frame
use Rattle.pfx_fault.specs.declared.fields.Part.{Part}
use Rattle.pfx_fault.specs.declared.fields.Part.TheVariants as part
use Rattle.pfx_store_recover.specs.declared.faults.Refusal.{Refusal}
use Rattle.pfx_store_recover.specs.declared.faults.Refusal.TheVariants as refusal
use Rattle.pfx_store_recover.specs.declared.faults.HeadFault.{HeadFault}
use Rattle.pfx_store_recover.specs.declared.faults.HeadFault.TheVariants as head
use Rattle.pfx_store_recover.specs.declared.faults.OpenFault.{OpenFault}
use Rattle.pfx_store_recover.specs.declared.faults.OpenFault.TheVariants as fault

-- what a part that a refusal names means
abbrev pub part_of : Part → means.Part
part_of part.Header = means.Header
part_of part.Length = means.Length
part_of part.Checkpoint = means.Checkpoint
part_of part.Segment = means.Segment
part_of part.Frame = means.Frame
part_of part.Record = means.Record

-- what a refusal means
abbrev pub refusal_of : Refusal → means.Refusal
refusal_of refusal.NotAStore = means.NotAStore
refusal_of (refusal.WrongVersion version) = means.WrongVersion version
refusal_of (refusal.Damaged at what) = means.Damaged at (part_of what)

-- the faults of those who read a header, as faults of opening
abbrev pub of_head : HeadFault → OpenFault
of_head (head.Refused e) = fault.Refused e
of_head head.NoMemory = fault.NoMemory

-- the faults of those who read a frame, as faults of opening
abbrev pub of_frame : ReadFault → OpenFault
of_frame frame.NoMemory = fault.NoMemory
of_frame frame.Device = fault.Device
of_frame (frame.Damaged at) = fault.Refused (refusal.Damaged at part.Frame)

-- the header was read, or refused for the same reason, unless memory ran out
abbrev pub GivesHead : {H : Type 0} → Result H means.Refusal → Result H HeadFault → Type 0
GivesHead read (Ok h) = read ≡ Ok h
GivesHead read (Err (head.Refused e)) = read ≡ Err (refusal_of e)
GivesHead read (Err head.NoMemory) = ⊤

-- What was answered is so of what is read, or was refused for the same reason, unless memory ran out or the disk failed.
abbrev pub Gives : {T A : Type 0} → (T → Result A means.Refusal → Type 0) → Result A means.Refusal → Result T OpenFault → Type 0
Gives P read (Ok t) = P t read
Gives P read (Err (fault.Refused e)) = read ≡ Err (refusal_of e)
Gives P read (Err fault.Device) = ⊤
Gives P read (Err fault.NoMemory) = ⊤

-- this is what is read
abbrev pub IsRead : {A : Type 0} → A → Result A means.Refusal → Type 0
IsRead a read = read ≡ Ok a

-- if the fault is a refusal, this holds of what it means
abbrev pub IsRefusal : OpenFault → (means.Refusal → Type 0) → Type 0
IsRefusal (fault.Refused e) P = P (refusal_of e)
IsRefusal fault.Device P = ⊤
IsRefusal fault.NoMemory P = ⊤
