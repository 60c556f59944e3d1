-- Records as contracts see them, and their bytes.
use Rattle.std.specs.Prelude.{ℕ, ◌+◌, ◌^◌, Bool, true, ◌&&◌, ◌==◌, nat_lt, nat_le, List, [], ◌∷◌, ◌++◌, length, map, Option, Some, None}
use Rattle.std.specs.List.{list_all}
use Rattle.pfx_jobs.specs.Kind.{Kind}
use Rattle.pfx_record.specs.Begins.{joined}
use Rattle.pfx_record.specs.Numbers.{number_bytes}
use Rattle.pfx_weights.specs.Bytes.{weight_bytes}
use Rattle.pfx_record.specs.declared.form.Form.{Form}
use Rattle.pfx_record.specs.declared.record.Place.{Place}
use Rattle.pfx_record.specs.declared.record.Record.{Record}
use Rattle.pfx_record.specs.declared.record.Record.TheVariants.{Submit, Slot, Withdraw, Reweigh}

-- a task got a job; or the tasks of a row ran, each with its job's state after the step if it took one; or a job was
-- taken away; or there are other workers, and each real task has a new weight
pub data Recorded (J : Type 0) : Type 0 where
  submitted : (task : ℕ) (job : J) → Recorded J
  ran : (row : List (Place J)) → Recorded J
  withdrawn : (task : ℕ) → Recorded J
  reweighed : (workers : ℕ) (weights : List (ℕ × ℕ)) → Recorded J

-- what a record says
abbrev pub plain : {J : Type 0} → Record J → Recorded J
plain (Submit task job) = submitted task job
plain (Slot row) = ran row.items
plain (Withdraw task) = withdrawn task
plain (Reweigh workers weights) = reweighed workers weights

-- the tasks of a row
abbrev pub tasks_of : {J : Type 0} → List (Place J) → List ℕ
tasks_of row = map (λ place. place.task) row

-- each task is below 2 ^ 16, the first is at least this one, and each of the others above the one before
abbrev pub rises_from : ℕ → List ℕ → Bool
rises_from low [] = true
rises_from low (task ∷ tasks) = nat_le low task && (nat_lt task (2 ^ 16) && rises_from (task + 1) tasks)

-- the form of the records of a batch of so many
abbrev pub form_of : ℕ → ℕ → ℕ → Form
form_of workers real count = record { workers = workers; real = real; alone = count == 1 }

-- two numbers of 32 bits
abbrev pub is_small : ℕ × ℕ → Bool
is_small w = nat_lt w.0 (2 ^ 32) && nat_lt w.1 (2 ^ 32)

-- new weights may stand there: the record is alone, and 1 to 1,024 tasks are real
abbrev pub takes_weights : Form → Bool
takes_weights form = form.alone && (nat_lt 0 form.real && nat_le form.real 1024)

-- the record has a spelling of this form; new weights are one for each of 1 to 1,024 real tasks, and alone in their batch
abbrev pub record_fits : {J : Type 0} → Form → Recorded J → Bool
record_fits form (submitted task job) = nat_lt task (2 ^ 16)
record_fits form (ran row) = (length row == form.workers) && rises_from 0 (tasks_of row)
record_fits form (withdrawn task) = nat_lt task (2 ^ 16)
record_fits form (reweighed workers weights) = takes_weights form && ((length weights == form.real) && (nat_lt workers 256 && list_all is_small weights))

-- the flag 1 and the state, or the flag 0
abbrev pub state_bytes : {J : Type 0} → Kind J → Option J → List ℕ
state_bytes K None = 0 ∷ []
state_bytes K (Some state) = 1 ∷ K.spelling state

-- a task of a row and its state
abbrev pub place_bytes : {J : Type 0} → Kind J → Place J → List ℕ
place_bytes K place = number_bytes 2 place.task ++ state_bytes K place.state

abbrev pub row_bytes : {J : Type 0} → Kind J → List (Place J) → List ℕ
row_bytes K row = joined (place_bytes K) row

-- the tag, and what it is followed by
abbrev pub record_bytes : {J : Type 0} → Kind J → Recorded J → List ℕ
record_bytes K (submitted task job) = 1 ∷ (number_bytes 2 task ++ K.spelling job)
record_bytes K (ran row) = 2 ∷ row_bytes K row
record_bytes K (withdrawn task) = 3 ∷ number_bytes 2 task
record_bytes K (reweighed workers weights) = 4 ∷ (workers ∷ joined weight_bytes weights)

abbrev pub records_bytes : {J : Type 0} → Kind J → List (Recorded J) → List ℕ
records_bytes K records = joined (record_bytes K) records
