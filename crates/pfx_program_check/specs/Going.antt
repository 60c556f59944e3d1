-- How faults are found, one after the other.
use Rattle.std.specs.Prelude.{◌≡◌, List, ◌++◌, Some}
use Rattle.pfx_fault.specs.declared.refusals.Fault.{Fault}
use Rattle.pfx_program_check.specs.Faults.{Tried, AreFaults}

-- all are those before, and after them the faults of what is tried
abbrev pub IsFollowedBy : Tried → List Fault → List Fault → Type 0
IsFollowedBy t before all = (fs : List Fault) × AreFaults (Some t) fs × (all ≡ before ++ fs)
