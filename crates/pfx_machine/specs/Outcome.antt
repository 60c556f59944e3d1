-- The state after a list of commands, from the list as a whole.
use Rattle.std.specs.Prelude.{ℕ, ◌+◌, ◌==◌, Bool, false, if◌then◌else◌, List, [], ◌∷◌, length, take, Option, Some, None}
use Rattle.pfx_weights.specs.Rows.{is_in}
use Rattle.pfx_jobs.specs.Kind.{Kind}
use Rattle.pfx_jobs.specs.Steps.{times}
use Rattle.pfx_machine.specs.Plain.{Plain}
use Rattle.pfx_machine.specs.Happenings.{Happening, given, taken, ran, reweighed, ledger_after, from_after, happenings}
use Rattle.pfx_machine.specs.Last.{last_that, behind_last}
use Rattle.pfx_machine.specs.declared.command.Command.{Command}

-- the task was given a job, or its job was taken away
abbrev pub changes_task : {J : Type 0} → ℕ → Happening J → Bool
changes_task task (given other job) = other == task
changes_task task (taken other) = other == task
changes_task task (ran slot row) = false
changes_task task (reweighed slot set) = false

-- the job that a task was last given, as it was then; `before` is the task's job at the beginning
abbrev pub job_given : {J : Type 0} → Option J → Option (Happening J) → Option J
job_given before None = before
job_given before (Some (given task job)) = Some job
job_given before (Some (taken task)) = None
job_given before (Some (ran slot row)) = None
job_given before (Some (reweighed slot set)) = None

-- a task's job at the start of its span, which begins with the last change of the task's job
abbrev pub job_at_start : {J : Type 0} → ℕ → Option J → List (Happening J) → Option J
job_at_start task before happened = job_given before (last_that (changes_task task) happened)

-- what happened in the span
abbrev pub span_of : {J : Type 0} → ℕ → List (Happening J) → List (Happening J)
span_of task happened = behind_last (changes_task task) happened

-- the slots whose row holds the task
abbrev pub slots_of : {J : Type 0} → ℕ → List (Happening J) → List ℕ
slots_of task [] = []
slots_of task (given other job ∷ happened) = slots_of task happened
slots_of task (taken other ∷ happened) = slots_of task happened
slots_of task (ran slot row ∷ happened) = if is_in row task then slot ∷ slots_of task happened else slots_of task happened
slots_of task (reweighed slot set ∷ happened) = slots_of task happened

-- the first of these slots, as many as a job has steps left
abbrev pub first_slots : {J : Type 0} → Kind J → Option J → List ℕ → List ℕ
first_slots K None slots = []
first_slots K (Some s) slots = take (K.left s) slots

-- the quanta of a task's job: the first slots of its span whose row holds the task, as many as it had steps left at its start
abbrev pub quanta_of : {J : Type 0} → Kind J → ℕ → Option J → List (Happening J) → List ℕ
quanta_of K task before happened = first_slots K (job_at_start task before happened) (slots_of task (span_of task happened))

-- a job, stepped once for each of these quanta
abbrev pub stepped_by : {J : Type 0} → Kind J → List ℕ → Option J → Option J
stepped_by K quanta None = None
stepped_by K quanta (Some s) = Some (times (length quanta) K.stepped s)

-- a task's job: as it was at its start, stepped once for each of its quanta
abbrev pub job_after : {J : Type 0} → Kind J → ℕ → Option J → List (Happening J) → Option J
job_after K task before happened = stepped_by K (quanta_of K task before happened) (job_at_start task before happened)

-- the jobs from a task on
abbrev pub jobs_after : {J : Type 0} → Kind J → ℕ → List (Option J) → List (Happening J) → List (Option J)
jobs_after K task [] happened = []
jobs_after K task (before ∷ rest) happened = job_after K task before happened ∷ jobs_after K (task + 1) rest happened

-- the state after what happened
abbrev pub state_after : {J : Type 0} → Kind J → Plain J → List (Happening J) → Plain J
state_after K B happened = record {
  number = B.number + length happened;
  from = from_after B happened;
  ledger = ledger_after B happened;
  jobs = jobs_after K 0 B.jobs happened;
  segment = B.segment;
}

-- the state after a list of commands
abbrev pub outcome : {J : Type 0} → Kind J → Plain J → List (Command J) → Plain J
outcome K B H = state_after K B (happenings B H)
