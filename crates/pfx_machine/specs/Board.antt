-- What is shown of a state: its number, its slot, and a line for each task.
use Rattle.std.specs.Prelude.{ℕ, zero, suc, ◌==◌, if◌then◌else◌, List, [], ◌∷◌, ◌++◌, Option, Some, None, slice_get}
use Rattle.pfx_jobs.specs.Kind.{Kind}
use Rattle.pfx_columns.specs.Lags.{lag_of}
use Rattle.pfx_columns.specs.Ledgers.{task, total}
use Rattle.pfx_machine.specs.Plain.{Plain}
use Rattle.pfx_machine.specs.declared.board.JobStatus.{JobStatus}
use Rattle.pfx_machine.specs.declared.board.JobStatus.TheVariants as status
use Rattle.pfx_machine.specs.declared.board.TaskLine.{TaskLine}

-- how a task's job stands, by its place in the list of jobs; idle tasks have no place and no job
abbrev pub status_at : {J : Type 0} → Kind J → Option (Option J) → JobStatus
status_at K None = status.None
status_at K (Some None) = status.None
status_at K (Some (Some s)) = if K.left s == 0 then status.Done else status.Open

-- a task's line: the slots that it got, its lag's numerator and period, and its job
abbrev pub line_of : {J : Type 0} → Kind J → Plain J → ℕ → TaskLine
line_of K s x = record {
  alloc = (task s.ledger x).alloc;
  lag = lag_of (task s.ledger x).e (task s.ledger x).p (task s.ledger x).alloc s.ledger.slot;
  period = (task s.ledger x).p;
  job = status_at K (slice_get s.jobs x);
}

-- the lines of the first n tasks
abbrev pub lines_of : {J : Type 0} → Kind J → Plain J → ℕ → List TaskLine
lines_of K s zero = []
lines_of K s (suc n) = lines_of K s n ++ line_of K s n ∷ []

-- the lines of all tasks, idle ones too
abbrev pub all_lines : {J : Type 0} → Kind J → Plain J → List TaskLine
all_lines K s = lines_of K s (total s.ledger)
