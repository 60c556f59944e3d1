-- One command more: from a state to the next. That this agrees with the whole lists is proved.
use Rattle.std.specs.Prelude.{ℕ, ◌+◌, ◌==◌, if◌then◌else◌, List, [], ◌∷◌, Option, Some, None}
use Rattle.pfx_weights.specs.Rows.{is_in}
use Rattle.pfx_columns.specs.Ledgers.{Ledger, after, start}
use Rattle.pfx_jobs.specs.Kind.{Kind}
use Rattle.pfx_machine.specs.Plain.{Plain, whole}
use Rattle.pfx_machine.specs.Choosing.{row_in}
use Rattle.pfx_machine.specs.Reweighing.{new_set}
use Rattle.pfx_machine.specs.Happenings.{Happening, given, taken, ran, reweighed, row_or_none}
use Rattle.pfx_machine.specs.declared.command.Command.{Command}
use Rattle.pfx_machine.specs.declared.command.Command.TheVariants.{Submit, Slot, Withdraw, Reweigh}

-- a job after a slot whose row holds its task: a step more, unless it is done
abbrev pub once : {J : Type 0} → Kind J → J → J
once K s = if K.left s == 0 then s else K.stepped s

abbrev pub once_job : {J : Type 0} → Kind J → Option J → Option J
once_job K None = None
once_job K (Some s) = Some (once K s)

-- a task's job after what happened
abbrev pub job_step : {J : Type 0} → Kind J → ℕ → Happening J → Option J → Option J
job_step K task (given other job) o = if other == task then Some job else o
job_step K task (taken other) o = if other == task then None else o
job_step K task (ran slot row) o = if is_in row task then once_job K o else o
job_step K task (reweighed slot set) o = o

-- the jobs from a task on
abbrev pub jobs_step : {J : Type 0} → Kind J → ℕ → Happening J → List (Option J) → List (Option J)
jobs_step K task h [] = []
jobs_step K task h (o ∷ rest) = job_step K task h o ∷ jobs_step K (task + 1) h rest

-- the jobs after a slot with this row
abbrev pub served : {J : Type 0} → Kind J → List ℕ → List (Option J) → List (Option J)
served K row jobs = jobs_step K 0 (ran 0 row) jobs

abbrev pub ledger_step : {J : Type 0} → Ledger → Happening J → Ledger
ledger_step g (given task job) = g
ledger_step g (taken task) = g
ledger_step g (ran slot row) = after g (is_in row)
ledger_step g (reweighed slot set) = start set

abbrev pub from_step : {J : Type 0} → ℕ → Happening J → ℕ
from_step from (given task job) = from
from_step from (taken task) = from
from_step from (ran slot row) = from
from_step from (reweighed slot set) = slot

abbrev pub state_step : {J : Type 0} → Kind J → Plain J → Happening J → Plain J
state_step K s h = record {
  number = s.number + 1;
  from = from_step s.from h;
  ledger = ledger_step s.ledger h;
  jobs = jobs_step K 0 h s.jobs;
  segment = s.segment;
}

-- what a command does in a state
abbrev pub happening_in : {J : Type 0} → Plain J → Command J → Happening J
happening_in s (Submit task job) = given task job
happening_in s (Withdraw task) = taken task
happening_in s Slot = ran (whole s) (row_or_none (row_in s))
happening_in s (Reweigh workers weights) = reweighed (whole s) (new_set s.ledger.set workers weights)
