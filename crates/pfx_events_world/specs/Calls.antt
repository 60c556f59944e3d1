-- What a stop may leave before or within the calls of a disk that are still to come.
use Rattle.std.specs.Prelude.{◌⊎◌, ℕ, List, [], ◌∷◌, ◌++◌}
use Rattle.pfx_disk.specs.Stop.{Act, Left}

-- what a stop may leave within the call that comes next, if there is one
abbrev pub Within : List ℕ → List Act → List Act → List ℕ → Type 0
Within start done [] image = ⊥
Within start done (act ∷ coming) image = Left start (done ++ act ∷ []) image

-- what a stop may leave before or within the call that comes next
abbrev pub MayLeave : List ℕ → List Act → List Act → List ℕ → Type 0
MayLeave start done coming image = Left start done image ⊎ Within start done coming image
