-- What records do to a plain state. They are taken as they stand: no job is stepped, and nothing is chosen. New weights leave such a
-- state as it is but for the number: what they begin is a matter of the set, which isn't in it.
use Rattle.std.specs.Prelude.{ℕ, ◌+◌, ◌==◌, ◌||◌, if◌then◌else◌, Bool, false, List, [], ◌∷◌, Option, Some, None}
use Rattle.pfx_record.specs.Records.{Recorded, submitted, ran, withdrawn, reweighed}
use Rattle.pfx_record.specs.declared.record.Place.{Place}

-- a state without its set of tasks: the number of the last command, the slot to come, what each task got, and each real
-- task's job, if it has one
pub record Standing (J : Type 0) : Type 0 where
  pub number : ℕ
  pub slot : ℕ
  pub allocations : List ℕ
  pub jobs : List (Option J)

-- whether the row has the task
abbrev pub holds : {J : Type 0} → List (Place J) → ℕ → Bool
holds [] task = false
holds (place ∷ row) task = (place.task == task) || holds row task

-- the state that the row has for the task, if any
abbrev pub state_in : {J : Type 0} → List (Place J) → ℕ → Option J
state_in [] task = None
state_in (place ∷ row) task = if place.task == task then place.state else state_in row task

-- a recorded state takes the place of a job's state
abbrev pub instead_of : {J : Type 0} → Option J → Option J → Option J
instead_of None job = job
instead_of (Some state) job = Some state

-- one task's job after a record
abbrev pub job_after : {J : Type 0} → Recorded J → ℕ → Option J → Option J
job_after (submitted other given) task job = if other == task then Some given else job
job_after (ran row) task job = instead_of (state_in row task) job
job_after (withdrawn other) task job = if other == task then None else job
job_after (reweighed workers weights) task job = job

-- the jobs after a record, of the tasks from this one on
abbrev pub jobs_from : {J : Type 0} → Recorded J → ℕ → List (Option J) → List (Option J)
jobs_from done task [] = []
jobs_from done task (job ∷ jobs) = job_after done task job ∷ jobs_from done (task + 1) jobs

-- what each task from this one on got, with a row more
abbrev pub counted_from : {J : Type 0} → List (Place J) → ℕ → List ℕ → List ℕ
counted_from row task [] = []
counted_from row task (got ∷ allocations) = (if holds row task then got + 1 else got) ∷ counted_from row (task + 1) allocations

abbrev pub allocations_after : {J : Type 0} → Recorded J → List ℕ → List ℕ
allocations_after (submitted task job) allocations = allocations
allocations_after (ran row) allocations = counted_from row 0 allocations
allocations_after (withdrawn task) allocations = allocations
allocations_after (reweighed workers weights) allocations = allocations

abbrev pub slot_after : {J : Type 0} → Recorded J → ℕ → ℕ
slot_after (submitted task job) slot = slot
slot_after (ran row) slot = slot + 1
slot_after (withdrawn task) slot = slot
slot_after (reweighed workers weights) slot = slot

-- the state after one record
abbrev pub recorded_one : {J : Type 0} → Standing J → Recorded J → Standing J
recorded_one s done = record {
  number = s.number + 1;
  slot = slot_after done s.slot;
  allocations = allocations_after done s.allocations;
  jobs = jobs_from done 0 s.jobs;
}

-- the state after records, one after the other
abbrev pub recorded : {J : Type 0} → Standing J → List (Recorded J) → Standing J
recorded s [] = s
recorded s (done ∷ records) = recorded (recorded_one s done) records
