-- What is printed as JSON: an object a line, with its keys in alphabetical order.
use Rattle.std.specs.Prelude.{codes, ◌++◌, ◌+◌, ◌==◌, if◌then◌else◌, ℕ, List, [], ◌∷◌, map, Option, Some, None, slice_get}
use Rattle.serde_json.specs.Data.{Data, unsigned, number, string, array, object, Members, no_members, member}
use Rattle.serde_json.specs.Find.{of_integer}
use Rattle.serde_json.specs.View.{items_of}
use Rattle.serde_json.specs.Written.{compact_text}
use Rattle.pfx_kinds.specs.OwnKind.{answer_of}
use Rattle.pfx_kinds.specs.ScanKind.{needle_of}
use Rattle.pfx_kinds.specs.declared.any.AnyJob.{AnyJob}
use Rattle.pfx_kinds.specs.declared.any.AnyJob.TheVariants.{Count, Rule, Scan, Own}
use Rattle.pfx_kinds.specs.declared.count.Count as count_type
use Rattle.pfx_kinds.specs.declared.rule.Rule as rule_type
use Rattle.pfx_kinds.specs.declared.scan.Scan as scan_type
use Rattle.pfx_kinds.specs.declared.own.Own as own_type
use Rattle.pfx_fault.specs.Fields.{part_name, cause_name}
use Rattle.pfx_fault.specs.Refusals.{number_of, name_of}
use Rattle.pfx_fault.specs.declared.refusals.Fault.{Fault}
use Rattle.pfx_fault.specs.declared.refusals.Fault.TheVariants as fault
use Rattle.pfx_machine.specs.declared.board.JobStatus.{JobStatus}
use Rattle.pfx_machine.specs.declared.board.JobStatus.TheVariants as job_status
use Rattle.pfx_machine.specs.declared.board.TaskLine.{TaskLine}
use Rattle.pfx_machine.specs.declared.command.Reply.{Reply}
use Rattle.pfx_machine.specs.declared.command.Reply.TheVariants as reply
use Rattle.pfx_program.specs.Cells.{cells_text}

-- the line of an object
abbrev pub object_line : Data → List ℕ
object_line d = compact_text d ++ codes "\n"

-- a number at a key, a text at one, and lists
abbrev pub number_at : List ℕ → ℕ → Members → Members
number_at key n rest = member key (number (unsigned n)) rest

abbrev pub text_at : List ℕ → List ℕ → Members → Members
text_at key text rest = member key (string text) rest

abbrev pub texts_at : List ℕ → List (List ℕ) → Members → Members
texts_at key texts rest = member key (array (items_of (map string texts))) rest

abbrev pub numbers_at : List ℕ → List ℕ → Members → Members
numbers_at key ns rest = member key (array (items_of (map (λ n. number (unsigned n)) ns))) rest

-- a slot and the names of its row: `{"run":["x","y"],"slot":0}`
abbrev pub slot_object : ℕ → List (List ℕ) → Data
slot_object slot names = object (texts_at (codes "run") names (number_at (codes "slot") slot no_members))

-- what a job of each kind has computed, with its task's number, as `{"job":"count","left":98,"task":0,"value":12}`
abbrev pub count_object : ℕ → count_type.Count → Data
count_object x c =
    object (text_at (codes "job") (codes "count") (number_at (codes "left") c.left (number_at (codes "task") x (number_at (codes "value") c.value no_members))))

abbrev pub rule_object : ℕ → rule_type.Rule → Data
rule_object x r = object (text_at (codes "cells") (cells_text r.cells 0 r.width) (text_at (codes "job") (codes "rule")
    (number_at (codes "left") r.left (number_at (codes "rule") r.number (number_at (codes "task") x no_members)))))

abbrev pub scan_object : ℕ → scan_type.Scan → Data
scan_object x s = object (number_at (codes "found") s.found (text_at (codes "job") (codes "scan")
    (number_at (codes "left") s.left (text_at (codes "of") (needle_of s) (number_at (codes "task") x no_members)))))

-- the slot of the weights that an answer's unit is counted in, unless these are the first ones
abbrev pub since_at : ℕ → Members → Members
since_at since rest = if since == 0 then rest else number_at (codes "since") since rest

abbrev pub own_object : ℕ → own_type.Own → Data
own_object x s = object (number_at (codes "answered") s.answered (text_at (codes "job") (codes "own")
    (since_at s.since (number_at (codes "task") x (text_at (codes "text") (answer_of s) no_members)))))

abbrev pub job_object : ℕ → AnyJob → Data
job_object x (Count c) = count_object x c
job_object x (Rule r) = rule_object x r
job_object x (Scan s) = scan_object x s
job_object x (Own s) = own_object x s

-- ---- what a script's run prints

-- an accepted command, as `{"did":"submitted","number":1,"task":0}` and `{"did":"ran","number":2,"slot":0,"tasks":[0,1]}`
abbrev pub task_object : ℕ → List ℕ → ℕ → Data
task_object n did task = object (text_at (codes "did") did (number_at (codes "number") n (number_at (codes "task") task no_members)))

abbrev pub ran_object : ℕ → ℕ → List ℕ → Data
ran_object n slot row =
    object (text_at (codes "did") (codes "ran") (number_at (codes "number") n (number_at (codes "slot") slot (numbers_at (codes "tasks") row no_members))))

-- `{"did":"reweighed","number":4,"slot":3}`
abbrev pub reweighed_object : ℕ → ℕ → Data
reweighed_object n slot = object (text_at (codes "did") (codes "reweighed") (number_at (codes "number") n (number_at (codes "slot") slot no_members)))

abbrev pub reply_object : ℕ → Reply → Data
reply_object n (reply.Submitted task) = task_object n (codes "submitted") task
reply_object n (reply.Ran slot row) = ran_object n slot row
reply_object n (reply.Withdrawn task) = task_object n (codes "withdrawn") task
reply_object n (reply.Reweighed slot) = reweighed_object n slot

-- the fields of a fault, those of its row in the table of refusals
abbrev pub fault_fields : Fault → Members
fault_fields (fault.BadWeight task) = number_at (codes "task") task no_members
fault_fields (fault.HyperperiodTooLarge task) = number_at (codes "task") task no_members
fault_fields (fault.SegmentTooSmall least) = number_at (codes "least") least no_members
fault_fields (fault.TooManyUrgent urgent m) = number_at (codes "m") m (number_at (codes "urgent") urgent no_members)
fault_fields (fault.TooFewEligible eligible m) = number_at (codes "eligible") eligible (number_at (codes "m") m no_members)
fault_fields (fault.OutOfRange task) = number_at (codes "task") task no_members
fault_fields (fault.NoSuchTask task) = number_at (codes "task") task no_members
fault_fields (fault.TaskBusy task) = number_at (codes "task") task no_members
fault_fields (fault.NoJob task) = number_at (codes "task") task no_members
fault_fields (fault.NotLevel task) = number_at (codes "task") task no_members
fault_fields (fault.NotNext task) = number_at (codes "task") task no_members
fault_fields (fault.Damaged at what) = number_at (codes "at") at (text_at (codes "what") (part_name what) no_members)
fault_fields (fault.WrongVersion version) = number_at (codes "version") version no_members
fault_fields (fault.StoreFailed marked cause) = text_at (codes "cause") (cause_name cause) (number_at (codes "marked") marked no_members)
fault_fields (fault.BadScript at) = number_at (codes "at") at no_members
fault_fields (fault.LogGap log file) = number_at (codes "file") file (number_at (codes "log") log no_members)
fault_fields (fault.LogDamaged at) = number_at (codes "at") at no_members
fault_fields (fault.WrongLogVersion version) = number_at (codes "version") version no_members
fault_fields other = no_members

-- a refused command: `{"refused":{"fields":{"task":0},"name":"TaskBusy","number":32}}`
abbrev pub fault_object : Fault → Data
fault_object f =
    object (member (codes "fields") (object (fault_fields f)) (text_at (codes "name") (name_of f) (number_at (codes "number") (number_of f) no_members)))

abbrev pub refused_object : Fault → Data
refused_object f = object (member (codes "refused") (fault_object f) no_members)

-- `{"settled":4}`, `{"closed":4}`
abbrev pub settled_object : ℕ → Data
settled_object n = object (number_at (codes "settled") n no_members)

abbrev pub closed_object : ℕ → Data
closed_object n = object (number_at (codes "closed") n no_members)

-- ---- a board

abbrev pub job_name : JobStatus → List ℕ
job_name job_status.None = codes "none"
job_name job_status.Open = codes "open"
job_name job_status.Done = codes "done"

-- the word for a task's job, by its place in the list of jobs: `own` where other programs do the task's units, so that pfx has no step
-- of it to run, and else how the job stands
abbrev pub job_word : Option (Option AnyJob) → JobStatus → List ℕ
job_word None stands = job_name stands
job_word (Some None) stands = job_name stands
job_word (Some (Some (Count job))) stands = job_name stands
job_word (Some (Some (Rule job))) stands = job_name stands
job_word (Some (Some (Scan job))) stands = job_name stands
job_word (Some (Some (Own job))) stands = codes "own"

-- a task, whose lag is a number of parts of its period, with the word for its job
abbrev pub line_object : List ℕ → ℕ → TaskLine → Data
line_object job x t = object (number_at (codes "alloc") t.alloc (text_at (codes "job") job (member (codes "lag") (number (of_integer t.lag))
    (number_at (codes "period") t.period (number_at (codes "task") x no_members)))))

-- tasks with these jobs, the first one with the number x
abbrev pub line_objects : List (Option AnyJob) → ℕ → List TaskLine → List Data
line_objects jobs x [] = []
line_objects jobs x (t ∷ ts) = line_object (job_word (slice_get jobs x) t.job) x t ∷ line_objects jobs (x + 1) ts

-- the slot from which on the weights are in force, where there were others before
abbrev pub from_at : ℕ → Members → Members
from_at from rest = if from == 0 then rest else number_at (codes "from") from rest

-- `{"number":4,"slot":3,"tasks":[{"alloc":1,"job":"none","lag":-1,"period":3,"task":0}]}`
abbrev pub board_object : ℕ → ℕ → ℕ → List TaskLine → List (Option AnyJob) → Data
board_object n slot from lines jobs = object (from_at from
    (number_at (codes "number") n (number_at (codes "slot") slot (member (codes "tasks") (array (items_of (line_objects jobs 0 lines))) no_members))))
