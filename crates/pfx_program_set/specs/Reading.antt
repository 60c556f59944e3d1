-- Why no set is read.
use Rattle.std.specs.Prelude.{◌≡◌, ⊤, ℕ, List, None}
use Rattle.pfx_fault.specs.declared.refusals.Fault.{Fault}
use Rattle.pfx_fault.specs.declared.refusals.Fault.TheVariants as fault
use Rattle.pfx_program_set.specs.SetFile.{set_of_bytes}

-- the faults of a text that is read
abbrev pub IsOfText : Fault → Type 0
IsOfText fault.BadSet = ⊤
IsOfText fault.NoMemory = ⊤
IsOfText other = ⊥

-- why no set was taken from bytes
abbrev pub ReadFails : List ℕ → Fault → Type 0
ReadFails bytes fault.BadSet = set_of_bytes bytes ≡ None
ReadFails bytes fault.NoMemory = ⊤
ReadFails bytes other = ⊥
