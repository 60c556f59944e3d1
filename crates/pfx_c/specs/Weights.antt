-- Weights as callers lay them out.
use Rattle.std.specs.Prelude.{◌≡◌, ℕ, List, map}
use Rattle.pfx_weights.specs.Sets.{Refuses}
use Rattle.pfx_weights.specs.declared.faults.SetFault.{SetFault}
use Rattle.pfx_fault.specs.declared.refusals.Fault.{Fault}
use Rattle.pfx_c.specs.declared.weights.PfxWeight.{PfxWeight}
use Rattle.pfx_choice_refusals.specs.Faults.{fault_of_set}

abbrev pub pair_of : PfxWeight → ℕ × ℕ
pair_of w = (w.e, w.p)

abbrev pub pairs_of : List PfxWeight → List (ℕ × ℕ)
pairs_of weights = map pair_of weights

-- the set of m workers and these weights is refused by this fault
abbrev pub SetFails : ℕ → List PfxWeight → Fault → Type 0
SetFails m weights f = (s : SetFault) × (f ≡ fault_of_set s) × Refuses m (pairs_of weights) s
