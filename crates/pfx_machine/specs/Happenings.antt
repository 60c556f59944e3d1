-- What each command of a list did. Nothing here needs a job's kind: jobs don't bear on who runs.
use Rattle.std.specs.Prelude.{ℕ, ◌+◌, Bool, true, false, List, [], ◌∷◌, ◌++◌, Option, Some, None, Result, Ok, Err}
use Rattle.pfx_weights.specs.Rows.{Schedule}
use Rattle.pfx_columns.specs.Ledgers.{Ledger, start}
use Rattle.pfx_choice.specs.Plans.{past}
use Rattle.pfx_machine.specs.Plain.{Plain}
use Rattle.pfx_machine.specs.Choosing.{row_at}
use Rattle.pfx_machine.specs.Last.{last_that, behind_last}
use Rattle.pfx_machine.specs.Reweighing.{new_set}
pub use Rattle.pfx_machine.specs.declared.plain.Happening.{Happening}
pub use Rattle.pfx_machine.specs.declared.plain.Happening.TheVariants.{Given as given, Taken as taken, Ran as ran, Reweighed as reweighed}
use Rattle.pfx_machine.specs.declared.command.Command.{Command}
use Rattle.pfx_machine.specs.declared.command.Command.TheVariants.{Submit, Slot, Withdraw, Reweigh}

-- the rows that were run, in their order
abbrev pub rows_of : {J : Type 0} → List (Happening J) → Schedule
rows_of [] = []
rows_of (given task job ∷ happened) = rows_of happened
rows_of (taken task ∷ happened) = rows_of happened
rows_of (ran slot row ∷ happened) = row ∷ rows_of happened
rows_of (reweighed slot set ∷ happened) = rows_of happened

-- a new set came into force
abbrev pub is_new : {J : Type 0} → Happening J → Bool
is_new (given task job) = false
is_new (taken task) = false
is_new (ran slot row) = false
is_new (reweighed slot set) = true

-- the ledger with which the rows that count began: that of the last new set, if there is one
abbrev pub begun : {J : Type 0} → Ledger → Option (Happening J) → Ledger
begun g None = g
begun g (Some (given task job)) = g
begun g (Some (taken task)) = g
begun g (Some (ran slot row)) = g
begun g (Some (reweighed slot set)) = start set

-- the slot at which it came into force
abbrev pub begun_at : {J : Type 0} → ℕ → Option (Happening J) → ℕ
begun_at from None = from
begun_at from (Some (given task job)) = from
begun_at from (Some (taken task)) = from
begun_at from (Some (ran slot row)) = from
begun_at from (Some (reweighed slot set)) = slot

-- the ledger after all that: the rows since the last new set
abbrev pub ledger_after : {J : Type 0} → Plain J → List (Happening J) → Ledger
ledger_after B happened = past (begun B.ledger (last_that is_new happened)) (rows_of (behind_last is_new happened))

-- the slot at which the set then in force came into force
abbrev pub from_after : {J : Type 0} → Plain J → List (Happening J) → ℕ
from_after B happened = begun_at B.from (last_that is_new happened)

-- the slot to come, counted from the first one of all
abbrev pub whole_after : {J : Type 0} → Plain J → List (Happening J) → ℕ
whole_after B happened = from_after B happened + (ledger_after B happened).slot

-- a row, or the empty one if there is none
abbrev pub row_or_none : {E : Type 0} → Result (List ℕ) E → List ℕ
row_or_none (Ok row) = row
row_or_none (Err fault) = []

-- what one command does after what happened: a Slot runs PF's row at the ledger after the rows before it, and a Reweigh
-- puts a new set in force
abbrev pub happening : {J : Type 0} → Plain J → List (Happening J) → Command J → Happening J
happening B happened (Submit task job) = given task job
happening B happened (Withdraw task) = taken task
happening B happened Slot = ran (whole_after B happened) (row_or_none (row_at (whole_after B happened) (ledger_after B happened)))
happening B happened (Reweigh workers weights) = reweighed (whole_after B happened) (new_set (ledger_after B happened).set workers weights)

-- what happened, and then what the commands did, one after the other
abbrev pub happenings_behind : {J : Type 0} → Plain J → List (Happening J) → List (Command J) → List (Happening J)
happenings_behind B happened [] = happened
happenings_behind B happened (c ∷ H) = happenings_behind B (happened ++ happening B happened c ∷ []) H

-- what the commands did from a start
abbrev pub happenings : {J : Type 0} → Plain J → List (Command J) → List (Happening J)
happenings B H = happenings_behind B [] H
