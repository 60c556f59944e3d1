-- Records whose commands share a call of an engine.
use Rattle.std.specs.Prelude.{◌≡◌, ◌<◌, ⊤, ℕ, ◌+◌, ◌==◌, Bool, true, false, length, List, [], ◌∷◌, ◌++◌, Option, Some, IfSome, Ok, Err}
use Rattle.std.specs.Io.KnownBytes.{Appends}
use Rattle.pfx_kinds.specs.declared.any.AnyJob.{AnyJob}
use Rattle.pfx_machine.specs.Plain.{Plain}
use Rattle.pfx_machine.specs.declared.command.Command.{Command}
use Rattle.pfx_machine.specs.declared.command.Command.TheVariants.{Submit, Slot, Withdraw, Reweigh}
use Rattle.pfx_fault.specs.declared.refusals.Fault.{Fault}
use Rattle.pfx_program_script.specs.Records.{Fields, Records, Takes, Reads, ReadFails}
use Rattle.pfx_program_script.specs.Verbs.{Said, verb_of}
use Rattle.pfx_program.specs.declared.form.OutputForm.{OutputForm}
use Rattle.pfx_program.specs.declared.groups.Behind.{Behind}
use Rattle.pfx_program.specs.declared.groups.Behind.TheVariants as behind
use Rattle.pfx_program.specs.declared.groups.Joining.{Joining}
use Rattle.pfx_program.specs.declared.groups.Joining.TheVariants as joining
use Rattle.pfx_program.specs.Answers.{reply_line, refused_line}
use Rattle.pfx_program.specs.Faults.{fault_of_machine}
use Rattle.pfx_program.specs.Grants.{counted, is_next}
use Rattle.pfx_store_engine.specs.Promises.{IsEngineFault}
use Rattle.pfx_program.specs.Running.{LineFails}
use Rattle.pfx_program.specs.Script.{Run, Step, after, command_step, commands_of, course_from, moved, noted, verb_steps}
use Rattle.pfx_program.specs.declared.report.RefusedRecord.{RefusedRecord}
use Rattle.pfx_store_engine.specs.Sharing.{IsChange, Told}

-- the steps of commands, one after the other
unfoldable pub group_steps : Run → List (Command AnyJob) → List Step
group_steps r [] = []
group_steps r (c ∷ H) = command_step r c ∷ group_steps (moved r (commands_of (command_step r c ∷ []))) H

abbrev pub run_at : OutputForm → Plain AnyJob → ℕ → Run
run_at form s accepted = record { form = form; state = s; accepted = accepted }

-- the refused ones of records that have one step each, of which the first has the place `at`
abbrev pub group_refusals : ℕ → List Step → List RefusedRecord
group_refusals at [] = []
group_refusals at (x ∷ steps) = noted at x.refusal ++ group_refusals (at + 1) steps

-- how far a run has come behind them
abbrev pub behind_group : Run → List (Command AnyJob) → Run
behind_group r H = moved r (commands_of (group_steps r H))

-- ---- their lines

abbrev pub told_line : OutputForm → Told → List ℕ
told_line form (Ok x) = reply_line form x.0 x.1
told_line form (Err f) = refused_line form (fault_of_machine f)

abbrev pub told_text : OutputForm → List Told → List ℕ
told_text form [] = []
told_text form (x ∷ told) = told_line form x ++ told_text form told

abbrev pub told_count : List Told → ℕ
told_count [] = 0
told_count (Ok x ∷ told) = 1 + told_count told
told_count (Err f ∷ told) = told_count told

-- the refused ones, of which the first record has the place `at`
abbrev pub told_refusals : ℕ → List Told → List RefusedRecord
told_refusals at [] = []
told_refusals at (Ok x ∷ told) = told_refusals (at + 1) told
told_refusals at (Err f ∷ told) = record { at = at; fault = fault_of_machine f } ∷ told_refusals (at + 1) told

-- some first lines were written, whole, and the next one wasn't
pub record ToldFail (form : OutputForm) (told : List Told) (old new : Option (List ℕ)) (f : Fault) : Type 0 where
  pub printed : List Told
  pub next : Told
  pub rest : List Told
  pub split : told ≡ printed ++ next ∷ rest
  pub behind : Option (List ℕ)
  pub written : Appends old behind (told_text form printed)
  pub fails : LineFails (told_line form next) behind new f

-- ---- which records join a group

-- the command is of this task, or a Slot or new weights, which are of every task
abbrev pub touches : ℕ → Command AnyJob → Bool
touches x (Submit y job) = y == x
touches x (Withdraw y) = y == x
touches x Slot = true
touches x (Reweigh workers weights) = true

abbrev pub Avoid : ℕ → List (Command AnyJob) → Type 0
Avoid x [] = ⊤
Avoid x (c ∷ H) = (touches x c ≡ false) × Avoid x H

-- behind a group of commands from the state on, the record asks for this command and nothing else
abbrev pub Joins : Plain AnyJob → List (Command AnyJob) → Command AnyJob → Fields → Type 0
Joins s group c row = (verb : Said) × (verb_of row ≡ Some verb)
    × ((form : OutputForm) → (accepted : ℕ) → verb_steps (behind_group (run_at form s accepted) group) verb ≡ command_step (behind_group (run_at form s accepted) group) c ∷ [])

-- the machine may be asked to give a task this job, which counts in the weights in force if it is an answer
abbrev pub IsGiven : (Plain AnyJob → Fault → Type 0) → Plain AnyJob → ℕ → AnyJob → Joining → Type 0
IsGiven faults s x job (joining.Joins c) = (c ≡ Submit x (counted s x job)) × (is_next s x (counted s x job) ≡ true)
IsGiven faults s x job joining.Apart = ⊤
IsGiven faults s x job (joining.Failed f) = IsEngineFault faults s f

-- it joins a group of less than so many commands, or stays apart, or the engine failed
abbrev pub IsJoining : (Plain AnyJob → Fault → Type 0) → Plain AnyJob → ℕ → List (Command AnyJob) → Fields → Joining → Type 0
IsJoining faults s most group row (joining.Joins c) = (length group < most) × IsChange c × Joins s group c row
IsJoining faults s most group row joining.Apart = ⊤
IsJoining faults s most group row (joining.Failed f) = IsEngineFault faults s f

abbrev pub HasNotFailed : Joining → Type 0
HasNotFailed (joining.Failed f) = ⊥
HasNotFailed other = ⊤

-- ---- what was gathered

-- of a script's records these commands were read, one of each, and the others are left: the course of all goes through theirs
pub record Gathers (s : Plain AnyJob) (script next : Records) (group : List (Command AnyJob)) : Type 0 where
  pub rows : List Fields
  pub long : length rows ≡ length group
  pub known : IfSome script.left (λ all. (rest : List Fields) × (all ≡ rows ++ rest) × (next.left ≡ Some rest))
  pub place : next.place ≡ script.place + length group
  pub course : (form : OutputForm) → (accepted : ℕ) → (rest : List Fields) → course_from (script.place + 1) (run_at form s accepted) (rows ++ rest)
      ≡ after (group_steps (run_at form s accepted) group) (group_refusals (script.place + 1) (group_steps (run_at form s accepted) group))
      (course_from (next.place + 1) (behind_group (run_at form s accepted) group) rest)

-- What stands behind a group: no further record is ready; one that doesn't join was read; none is left; the next one wasn't read; or
-- the engine failed.
abbrev pub IsBehind : (Plain AnyJob → Fault → Type 0) → Plain AnyJob → Records → Records → Fields → List (Command AnyJob) → Behind → Type 0
IsBehind faults s script next row group behind.Nothing = (0 < length group) × Gathers s script next group
IsBehind faults s script next row group behind.Record = (mid : Records) × Gathers s script mid group × Takes mid row next
IsBehind faults s script next row group behind.End = (mid : Records) × Gathers s script mid group × Reads mid false [] next
IsBehind faults s script next row group (behind.Unread f) = (mid : Records) × Gathers s script mid group × ReadFails mid f × (next.failed ≡ true)
IsBehind faults s script next row group (behind.Failed f) = IsEngineFault faults s f

abbrev pub IsStill : Behind → Type 0
IsStill (behind.Failed f) = ⊥
IsStill other = ⊤
