-- The commands that records are of, and records that are those of their commands.
use Rattle.std.specs.Prelude.{◌≡◌, ℕ, Bool, true, List, [], ◌∷◌, map, Option, slice_get, ⊤}
use Rattle.pfx_columns.specs.Ledgers.{task}
use Rattle.pfx_jobs.specs.Kind.{Kind}
use Rattle.pfx_kinds.specs.Units.{is_taken}
use Rattle.pfx_kinds.specs.declared.units.Unit.{Unit}
use Rattle.pfx_machine.specs.Outcome.{outcome}
use Rattle.pfx_machine.specs.Plain.{Plain}
use Rattle.pfx_machine.specs.Sessions.{IsAcceptable}
use Rattle.pfx_machine.specs.declared.command.Command.{Command}
use Rattle.pfx_machine.specs.declared.command.Command.TheVariants.{Submit, Slot, Withdraw, Reweigh}
use Rattle.pfx_record.specs.Records.{Recorded, submitted, ran, withdrawn, reweighed}
use Rattle.pfx_record_redo.specs.Recording.{records_of}

-- the command that a record is of
abbrev pub command_of : {J : Type 0} → Recorded J → Command J
command_of (submitted task job) = Submit task job
command_of (ran row) = Slot
command_of (withdrawn task) = Withdraw task
command_of (reweighed workers weights) = Reweigh workers weights

abbrev pub commands_of : {J : Type 0} → List (Recorded J) → List (Command J)
commands_of records = map command_of records

-- whether the unit that a record answers, if it does, counts in the weights in force, is one that its task was given by then, and is the one
-- behind the last
abbrev pub is_next : {J : Type 0} → (J → Option Unit) → Plain J → Recorded J → Bool
is_next unit s (submitted x job) = is_taken unit s.from (slice_get s.jobs x) (task s.ledger x).alloc (unit job)
is_next unit s (ran row) = true
is_next unit s (withdrawn x) = true
is_next unit s (reweighed workers weights) = true

-- the same of each of these records, at the state after the commands of those before it
unfoldable pub AreNext : {J : Type 0} → Kind J → (J → Option Unit) → Plain J → List (Recorded J) → Type 0
AreNext K unit s [] = ⊤
AreNext K unit s (one ∷ records) = (is_next unit s one ≡ true) × AreNext K unit (outcome K s (command_of one ∷ [])) records

-- From a state on the records' commands are accepted, one after the other, and each record is that of its command: it has
-- PF's row, and after the row's quanta the jobs' states. Each answer is of the next unit that its task was given.
pub record Follow {J : Type 0} (K : Kind J) (unit : J → Option Unit) (s : Plain J) (records : List (Recorded J)) : Type 0 where
  pub acceptable : IsAcceptable K s (commands_of records)
  pub recorded : records ≡ records_of K s (commands_of records)
  pub next : AreNext K unit s records
