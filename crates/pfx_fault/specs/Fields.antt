-- The words of fields.
use Rattle.std.specs.Prelude.{codes, ℕ, List}
use Rattle.pfx_fault.specs.declared.fields.Part.{Part}
use Rattle.pfx_fault.specs.declared.fields.Part.TheVariants as part
use Rattle.pfx_fault.specs.declared.fields.Cause.{Cause}
use Rattle.pfx_fault.specs.declared.fields.Cause.TheVariants as cause

-- a part of a store file
abbrev pub part_name : Part → List ℕ
part_name part.Header = codes "Header"
part_name part.Length = codes "Length"
part_name part.Checkpoint = codes "Checkpoint"
part_name part.Segment = codes "Segment"
part_name part.Frame = codes "Frame"
part_name part.Record = codes "Record"

-- why a store has failed
abbrev pub cause_name : Cause → List ℕ
cause_name cause.Device = codes "Device"
cause_name cause.Memory = codes "Memory"
cause_name cause.Log = codes "Log"
