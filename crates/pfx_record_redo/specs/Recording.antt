-- The records of commands.
use Rattle.std.specs.Prelude.{ℕ, ◌==◌, if◌then◌else◌, List, [], ◌∷◌, map, slice_get, Option, Some, None}
use Rattle.pfx_jobs.specs.Kind.{Kind}
use Rattle.pfx_machine.specs.Plain as machine
use Rattle.pfx_machine.specs.Choosing.{row_in}
use Rattle.pfx_machine.specs.Happenings.{row_or_none}
use Rattle.pfx_machine.specs.Outcome.{outcome}
use Rattle.pfx_machine.specs.Slots.{Deal}
use Rattle.pfx_machine.specs.declared.command.Command.{Command}
use Rattle.pfx_machine.specs.declared.command.Command.TheVariants.{Submit, Slot, Withdraw, Reweigh}
use Rattle.pfx_record.specs.Records.{Recorded, submitted, ran, withdrawn, reweighed}
use Rattle.pfx_record.specs.declared.record.Place.{Place}

-- the state of an unfinished job after a step, by its task's place in the list of jobs
abbrev pub state_after_step : {J : Type 0} → Kind J → Option (Option J) → Option J
state_after_step K None = None
state_after_step K (Some None) = None
state_after_step K (Some (Some s)) = if K.left s == 0 then None else Some (K.stepped s)

-- the state that quanta have for a task after a step, if any
abbrev pub after_in : {J : Type 0} → Kind J → ℕ → List (Deal J) → Option J
after_in K task [] = None
after_in K task (d ∷ quanta) = if d.task == task then Some (K.stepped d.before) else after_in K task quanta

-- the places of a row's tasks
abbrev pub place_of : {J : Type 0} → Kind J → List (Option J) → ℕ → Place J
place_of K jobs task = record { task = task; state = state_after_step K (slice_get jobs task) }

-- the record of a command that is accepted in a state
abbrev pub record_of : {J : Type 0} → Kind J → machine.Plain J → Command J → Recorded J
record_of K s (Submit task job) = submitted task job
record_of K s (Withdraw task) = withdrawn task
record_of K s Slot = ran (map (place_of K s.jobs) (row_or_none (row_in s)))
record_of K s (Reweigh workers weights) = reweighed workers weights

-- the records of commands, each accepted after those before it
abbrev pub records_of : {J : Type 0} → Kind J → machine.Plain J → List (Command J) → List (Recorded J)
records_of K s [] = []
records_of K s (c ∷ H) = record_of K s c ∷ records_of K (outcome K s (c ∷ [])) H
