-- Why a run on a store beside its log ends.
use Rattle.std.specs.Prelude.{◌≡◌, ◌⊎◌}
use Rattle.pfx_fault.specs.declared.fields.Cause.{Cause}
use Rattle.pfx_fault.specs.declared.fields.Cause.TheVariants as cause

-- the store's disk failed, or the log
abbrev pub IsDiskOrLog : Cause → Type 0
IsDiskOrLog why = (why ≡ cause.Device) ⊎ (why ≡ cause.Log)
