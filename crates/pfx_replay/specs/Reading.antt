-- Faults of those who only read.
use Rattle.std.specs.Prelude.{⊤}
use Rattle.pfx_store_recover.specs.declared.faults.OpenFault.{OpenFault}
use Rattle.pfx_store_recover.specs.declared.faults.OpenFault.TheVariants.{Refused, Device, NoMemory}

-- the disk failed, or an allocation failed
abbrev pub IsNoRefusal : OpenFault → Type 0
IsNoRefusal (Refused refusal) = ⊥
IsNoRefusal Device = ⊤
IsNoRefusal NoMemory = ⊤
