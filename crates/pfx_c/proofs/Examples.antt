-- Worked rows: rows laid one behind the other, a caller's weights, and the task that a refusal names.
use Rattle.std.specs.Prelude.{◌≡◌, [], ◌∷◌, refl}
use Rattle.pfx_fault.specs.declared.refusals.Fault.TheVariants as fault
use Rattle.pfx_c.specs.Faults.{task_named}
use Rattle.pfx_c.specs.Plans.{laid}
use Rattle.pfx_c.specs.Weights.{pairs_of}

no_rows : laid [] ≡ []
no_rows = refl

two_rows : laid ((0 ∷ 1 ∷ []) ∷ (0 ∷ 2 ∷ []) ∷ []) ≡ 0 ∷ 1 ∷ 0 ∷ 2 ∷ []
two_rows = refl

two_weights : pairs_of (record { e = 2; p = 3 } ∷ record { e = 1; p = 4 } ∷ []) ≡ (2, 3) ∷ (1, 4) ∷ []
two_weights = refl

-- a lag out of range names its task, and a wrong sum names none
third_task : task_named (fault.OutOfRange 2) 9 ≡ 2
third_task = refl

no_task : task_named fault.WrongSum 9 ≡ 9
no_task = refl
