-- The quanta of one slot: one for each task of its row with an unfinished job.
use Rattle.std.specs.Prelude.{ℕ, ◌+◌, ◌==◌, if◌then◌else◌, List, [], ◌∷◌, ◌++◌, Option, Some, None, slice_get, slice_set}
use Rattle.pfx_jobs.specs.Kind.{Kind}
use Rattle.pfx_machine.specs.Plain.{Plain, whole}

-- a quantum that is to be run, as plain fields
pub record Deal (J : Type 0) : Type 0 where
  pub number : ℕ
  pub slot : ℕ
  pub task : ℕ
  pub before : J

abbrev pub deal : {J : Type 0} → ℕ → ℕ → ℕ → J → Deal J
deal number slot task before = record { number = number; slot = slot; task = task; before = before }

-- the quantum of one task, by its place in the list of jobs
abbrev pub deal_at : {J : Type 0} → Kind J → ℕ → ℕ → ℕ → Option (Option J) → List (Deal J)
deal_at K number slot task None = []
deal_at K number slot task (Some None) = []
deal_at K number slot task (Some (Some s)) = if K.left s == 0 then [] else deal number slot task s ∷ []

-- the quanta of a row, in its order, which rises
abbrev pub deals : {J : Type 0} → Kind J → ℕ → ℕ → List ℕ → List (Option J) → List (Deal J)
deals K number slot [] jobs = []
deals K number slot (task ∷ row) jobs = deal_at K number slot task (slice_get jobs task) ++ deals K number slot row jobs

-- the quanta of a state's next slot with this row
abbrev pub deals_in : {J : Type 0} → Kind J → Plain J → List ℕ → List (Deal J)
deals_in K s row = deals K (s.number + 1) (whole s) row s.jobs

-- the jobs after each of these quanta was run and written back
abbrev pub written_back : {J : Type 0} → Kind J → List (Deal J) → List (Option J) → List (Option J)
written_back K [] jobs = jobs
written_back K (d ∷ ds) jobs = written_back K ds (slice_set jobs d.task (Some (K.stepped d.before)))
