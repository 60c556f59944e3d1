-- What is said of a set first.
use Rattle.std.specs.Prelude.{◌≡◌, ◌⊎◌, ℕ, List, ◌∷◌}
use Rattle.pfx_weights.specs.Sets.{FilledSet, Accepts, Refuses}
use Rattle.pfx_weights.specs.declared.faults.SetFault.{SetFault}
use Rattle.pfx_fault.specs.declared.refusals.Fault.{Fault}
use Rattle.pfx_choice_refusals.specs.Faults.{fault_of_set}
use Rattle.pfx_program_check.specs.Faults.{segment_faults}

-- f is why the set is refused; or the set is accepted, and f and what comes after it are its segment's faults
abbrev pub IsFirst : ℕ → List (ℕ × ℕ) → ℕ → Fault → List Fault → Type 0
IsFirst m tasks segment f fs =
    ((why : SetFault) × Refuses m tasks why × (f ≡ fault_of_set why)) ⊎ ((s : FilledSet) × Accepts m tasks s × (segment_faults m segment ≡ f ∷ fs))
