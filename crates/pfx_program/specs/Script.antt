-- What a run of a script does: steps, each with what it prints and the command that it carries out; a function of the
-- script's records and of the state that it begins with.
use Rattle.std.specs.Prelude.{◌++◌, ℕ, zero, suc, ◌+◌, nat_lt, if◌then◌else◌, Bool, length, List, [], ◌∷◌, Option, Some, None, Result, Ok, Err}
use Rattle.std.specs.Option.{option_or}
use Rattle.pfx_kinds.specs.AnyKind.{any_kind, any_decoded}
use Rattle.pfx_kinds.specs.Counts.{count_bytes}
use Rattle.pfx_kinds.specs.Rules.{rule_bytes}
use Rattle.pfx_kinds.specs.Scans.{scan_bytes}
use Rattle.pfx_kinds.specs.Owns.{own_bytes}
use Rattle.pfx_kinds.specs.Starts.{AnyFields, a_count, a_rule, a_scan, an_own, any_start, or_bad_data}
use Rattle.pfx_kinds.specs.declared.any.AnyJob.{AnyJob}
use Rattle.pfx_kinds.specs.declared.start.JobStartFault.{JobStartFault}
use Rattle.pfx_machine.specs.Plain.{Plain, whole}
use Rattle.pfx_machine.specs.Outcome.{outcome}
use Rattle.pfx_machine.specs.Runs.{answer}
use Rattle.pfx_machine.specs.Board.{all_lines}
use Rattle.pfx_machine.specs.declared.command.Command.{Command}
use Rattle.pfx_machine.specs.declared.command.Command.TheVariants.{Submit, Slot, Withdraw, Reweigh}
use Rattle.pfx_machine.specs.declared.command.Reply.{Reply}
use Rattle.pfx_machine.specs.declared.faults.MachineFault.{MachineFault}
use Rattle.pfx_program_script.specs.Verbs.{Said, submit, slot, withdraw, settle, status, show, reweigh, verb_of}
use Rattle.pfx_program_script.specs.Weights.{said_weights}
use Rattle.pfx_program_script.specs.Records.{Fields, script_records}
use Rattle.pfx_fault.specs.declared.refusals.Fault.{Fault}
use Rattle.pfx_fault.specs.declared.refusals.Fault.TheVariants as fault
use Rattle.pfx_program.specs.declared.form.OutputForm.{OutputForm}
use Rattle.pfx_program.specs.declared.report.AtRefusal.{AtRefusal}
use Rattle.pfx_program.specs.declared.report.AtRefusal.TheVariants.{GoOn, End}
use Rattle.pfx_program.specs.declared.report.RefusedRecord.{RefusedRecord}
use Rattle.pfx_program.specs.Answers.{reply_line, refused_line, settled_line, closed_line, board_shown}
use Rattle.pfx_program.specs.Grants.{counted, is_next}
use Rattle.pfx_program.specs.Jobs.{shown_jobs}
use Rattle.pfx_program.specs.Faults.{fault_of_start, fault_of_machine}

-- how a run's lines are written, and how far it has come: the state, and how many commands were accepted
pub record Run : Type 0 where
  pub form : OutputForm
  pub state : Plain AnyJob
  pub accepted : ℕ

-- a step of a run: the lines that it prints, the command that it carries out, if there is one, and why it is refused, if it is
pub record Step : Type 0 where
  pub text : List ℕ
  pub command : Option (Command AnyJob)
  pub refusal : Option Fault

-- what steps print
abbrev pub text_of : List Step → List ℕ
text_of [] = []
text_of (x ∷ steps) = x.text ++ text_of steps

-- the commands that they carry out
abbrev pub with_command : Option (Command AnyJob) → List (Command AnyJob) → List (Command AnyJob)
with_command None H = H
with_command (Some c) H = c ∷ H

abbrev pub commands_of : List Step → List (Command AnyJob)
commands_of [] = []
commands_of (x ∷ steps) = with_command x.command (commands_of steps)

-- how far a run has come with these commands
abbrev pub moved : Run → List (Command AnyJob) → Run
moved r H = record { form = r.form; state = outcome any_kind r.state H; accepted = r.accepted + length H }

-- why a record is refused that has these steps: as the first of them that is
abbrev pub refusal_of : List Step → Option Fault
refusal_of [] = None
refusal_of (x ∷ steps) = option_or x.refusal (refusal_of steps)

-- lines alone, with the refusal that they tell, if they tell one
abbrev pub silent : List ℕ → Option Fault → Step
silent text why = record { text = text; command = None; refusal = why }

abbrev pub shown : List ℕ → Step
shown text = silent text None

-- a refused command changes nothing
abbrev pub refused : OutputForm → Fault → Step
refused form f = silent (refused_line form f) (Some f)

-- a command that is carried out
abbrev pub carried : List ℕ → Command AnyJob → Step
carried text c = record { text = text; command = Some c; refusal = None }

abbrev pub answered : Run → Command AnyJob → Result Reply MachineFault → Step
answered r c (Ok reply) = carried (reply_line r.form (r.state.number + 1) reply) c
answered r c (Err f) = refused r.form (fault_of_machine f)

-- a command: one run accepts 1,048,576 of them
abbrev pub command_step : Run → Command AnyJob → Step
command_step r c = if nat_lt r.accepted 1048576 then answered r c (answer any_kind r.state c) else refused r.form fault.SessionFull

-- more follows a command that is accepted
abbrev pub follows : (Run → List Step) → Run → Option (Command AnyJob) → List Step
follows more r None = []
follows more r (Some c) = more (moved r (c ∷ []))

-- so many slots, up to the first one that is refused
unfoldable pub slot_steps : Run → ℕ → List Step
slot_steps r zero = []
slot_steps r (suc n) = command_step r Slot ∷ follows (λ next. slot_steps next n) r (command_step r Slot).command

-- the job that has these numbers: the one that their encoding gives
abbrev pub job_of : AnyFields → Option AnyJob
job_of (a_count f) = any_decoded (count_bytes f)
job_of (a_rule f) = any_decoded (rule_bytes f)
job_of (a_scan f) = any_decoded (scan_bytes f)
job_of (an_own f) = any_decoded (own_bytes f)

abbrev pub job_by : Result AnyFields JobStartFault → Result AnyJob JobStartFault
job_by (Ok f) = or_bad_data (job_of f)
job_by (Err f) = Err f

-- a job of a kind, a goal and a text, for a task; an answer counts in the weights in force, and only if it is of the next unit that the task was
-- given, at the state after all accepted commands
abbrev pub submitted_if : Bool → Run → ℕ → AnyJob → Step
submitted_if next r task job = if next then command_step r (Submit task job) else refused r.form (fault.NotNext task)

abbrev pub submitted : Run → ℕ → Result AnyJob JobStartFault → Step
submitted r task (Ok job) = submitted_if (is_next r.state task (counted r.state task job)) r task (counted r.state task job)
submitted r task (Err f) = refused r.form (fault_of_start f)

-- the board of a state
abbrev pub board_of : OutputForm → Plain AnyJob → List ℕ
board_of form s = board_shown form s.number (whole s) s.from (all_lines any_kind s) s.jobs

-- the lines of jobs, or why there is none
abbrev pub jobs_step : OutputForm → Result (List ℕ) Fault → Step
jobs_step form (Ok text) = shown text
jobs_step form (Err f) = refused form f

abbrev pub verb_steps : Run → Said → List Step
verb_steps r (submit task kind goal text) = submitted r task (job_by (any_start kind goal text)) ∷ []
verb_steps r (slot n) = slot_steps r n
verb_steps r (withdraw task) = command_step r (Withdraw task) ∷ []
verb_steps r settle = shown (settled_line r.form r.state.number) ∷ []
verb_steps r status = shown (board_of r.form r.state) ∷ []
verb_steps r (show task) = jobs_step r.form (shown_jobs r.form r.state.jobs task) ∷ []
verb_steps r (reweigh workers text) = command_step r (Reweigh workers (said_weights text)) ∷ []

-- The steps of a script, its refused records, and the place, counted from 1, of the record without form that ends them.
pub record Course : Type 0 where
  pub steps : List Step
  pub refusals : List RefusedRecord
  pub ends_at : Option ℕ

-- a record at this place, if it is refused
abbrev pub noted : ℕ → Option Fault → List RefusedRecord
noted at None = []
noted at (Some f) = record { at = at; fault = f } ∷ []

abbrev pub after : List Step → List RefusedRecord → Course → Course
after steps refusals o = record { steps = steps ++ o.steps; refusals = refusals ++ o.refusals; ends_at = o.ends_at }

-- a record's steps, and then what follows; a record without form ends the run
abbrev pub course_by : (Run → Course) → ℕ → Run → Option Said → Course
course_by more at r None = record { steps = []; refusals = []; ends_at = Some at }
course_by more at r (Some verb) = after (verb_steps r verb) (noted at (refusal_of (verb_steps r verb))) (more (moved r (commands_of (verb_steps r verb))))

-- the course of records, of which the first has the place `at`; at the end the last number is printed
unfoldable pub course_from : ℕ → Run → List Fields → Course
course_from at r [] = record { steps = shown (closed_line r.form r.state.number) ∷ []; refusals = []; ends_at = None }
course_from at r (row ∷ rows) = course_by (λ next. course_from (at + 1) next rows) at r (verb_of row)

-- what follows a record, if it has a form and isn't refused
abbrev pub unless_refused : (Run → List Fields) → Run → List Step → Option Fault → List Fields
unless_refused more r steps None = more (moved r (commands_of steps))
unless_refused more r steps (Some f) = []

abbrev pub up_by : (Run → List Fields) → Run → Option Said → List Fields
up_by more r None = []
up_by more r (Some verb) = unless_refused more r (verb_steps r verb) (refusal_of (verb_steps r verb))

-- the records up to the first one that is refused or has no form
unfoldable pub up_to_refusal : Run → List Fields → List Fields
up_to_refusal r [] = []
up_to_refusal r (row ∷ rows) = row ∷ up_by (λ next. up_to_refusal next rows) r (verb_of row)

-- the records that a run takes of these: all, or, if it ends at a refusal, those up to the first one that is refused
abbrev pub taken : AtRefusal → Run → List Fields → List Fields
taken GoOn r rows = rows
taken End r rows = up_to_refusal r rows

-- how far a run has come that begins with a state
abbrev pub at_start : OutputForm → Plain AnyJob → Run
at_start form s = record { form = form; state = s; accepted = 0 }

-- the course of a script's bytes, from a state on, by what it does at a refusal
abbrev pub script_course : OutputForm → AtRefusal → Plain AnyJob → List ℕ → Course
script_course form at_refusal s bytes = course_from 1 (at_start form s) (taken at_refusal (at_start form s) (script_records bytes))
