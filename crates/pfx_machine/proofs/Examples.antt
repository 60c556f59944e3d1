-- Worked rows of the definitions over whole lists.
use Rattle.std.specs.Prelude.{◌≡◌, ℕ, ◌-◌, List, [], ◌∷◌, Some, None, refl}
use Rattle.pfx_jobs.specs.Kind.{Kind}
use Rattle.pfx_machine.specs.Happenings.{Happening, given, taken, ran}
use Rattle.pfx_machine.specs.Outcome.{job_at_start, quanta_of, job_after}

-- a kind whose states are how many steps are left
abbrev down : Kind ℕ
down = record { left = λ n. n; stepped = λ n. n - 1; spelling = λ n. []; decoded = λ bytes. None }

-- a job of three steps for task 0, and five slots of three tasks of 2/3
abbrev week : List (Happening ℕ)
week = given 0 3 ∷ ran 0 (0 ∷ 1 ∷ []) ∷ ran 1 (0 ∷ 2 ∷ []) ∷ ran 2 (1 ∷ 2 ∷ []) ∷ ran 3 (0 ∷ 1 ∷ []) ∷ ran 4 (0 ∷ 2 ∷ []) ∷ []

three_quanta : quanta_of down 0 None week ≡ 0 ∷ 1 ∷ 3 ∷ []
three_quanta = refl

is_done : job_after down 0 None week ≡ Some 0
is_done = refl

no_job : quanta_of down 1 None week ≡ []
no_job = refl

-- the job that a task had at the beginning has its span from there on
from_before : quanta_of down 2 (Some 1) week ≡ 1 ∷ []
from_before = refl

-- taken away and given anew: only what comes behind the last change counts
abbrev changed : List (Happening ℕ)
changed = ran 0 (0 ∷ 1 ∷ []) ∷ given 0 2 ∷ ran 1 (0 ∷ 2 ∷ []) ∷ taken 0 ∷ ran 2 (0 ∷ 1 ∷ []) ∷ given 0 5 ∷ taken 1 ∷ ran 3 (0 ∷ 1 ∷ []) ∷ []

last_given : job_at_start 0 (Some 9) changed ≡ Some 5
last_given = refl

one_quantum : quanta_of down 0 (Some 9) changed ≡ 3 ∷ []
one_quantum = refl

withdrawn : job_after down 1 (Some 9) changed ≡ None
withdrawn = refl
