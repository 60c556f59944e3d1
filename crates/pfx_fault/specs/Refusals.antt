-- The table of the refusals: the number, the name and the fields of each.
use Rattle.std.specs.Prelude.{codes, ℕ, nat_le, if◌then◌else◌, List, [], ◌∷◌, ◌++◌}
use Rattle.std.specs.Fmt.{decimal}
use Rattle.pfx_fault.specs.Fields.{part_name, cause_name}
use Rattle.pfx_fault.specs.declared.refusals.Fault.{Fault}
use Rattle.pfx_fault.specs.declared.refusals.Fault.TheVariants as fault

-- a field of a refusal: its name, and its value as text
pub record Field : Type 0 where
  pub name : List ℕ
  pub value : List ℕ

-- a row of the table
pub record Refusal : Type 0 where
  pub number : ℕ
  pub name : List ℕ
  pub fields : List Field

-- a row with no field
abbrev pub plain : ℕ → List ℕ → Refusal
plain number name = record { number = number; name = name; fields = [] }

-- a row with one field more, at the end: a word or a number
abbrev pub with_word : Refusal → List ℕ → List ℕ → Refusal
with_word r name value = record r { fields = r.fields ++ record { name = name; value = value } ∷ [] }

abbrev pub with : Refusal → List ℕ → ℕ → Refusal
with r name value = with_word r name (decimal value)

-- the table
abbrev pub refusal : Fault → Refusal
refusal fault.BadSet = plain 10 (codes "BadSet")
refusal fault.NoTasks = plain 11 (codes "NoTasks")
refusal fault.TooManyTasks = plain 12 (codes "TooManyTasks")
refusal fault.BadWorkers = plain 13 (codes "BadWorkers")
refusal (fault.BadWeight task) = with (plain 14 (codes "BadWeight")) (codes "task") task
refusal (fault.HyperperiodTooLarge task) = with (plain 16 (codes "HyperperiodTooLarge")) (codes "task") task
refusal fault.Overload = plain 17 (codes "Overload")
refusal (fault.SegmentTooSmall least) = with (plain 19 (codes "SegmentTooSmall")) (codes "least") least
refusal fault.SegmentTooLarge = plain 20 (codes "SegmentTooLarge")
refusal (fault.TooManyUrgent urgent m) = with (with (plain 21 (codes "TooManyUrgent")) (codes "urgent") urgent) (codes "m") m
refusal (fault.TooFewEligible eligible m) = with (with (plain 22 (codes "TooFewEligible")) (codes "eligible") eligible) (codes "m") m
refusal fault.SlotLimit = plain 23 (codes "SlotLimit")
refusal (fault.OutOfRange task) = with (plain 24 (codes "OutOfRange")) (codes "task") task
refusal fault.WrongSum = plain 25 (codes "WrongSum")
refusal fault.BadLedger = plain 26 (codes "BadLedger")
refusal (fault.NoSuchTask task) = with (plain 31 (codes "NoSuchTask")) (codes "task") task
refusal (fault.TaskBusy task) = with (plain 32 (codes "TaskBusy")) (codes "task") task
refusal (fault.NoJob task) = with (plain 33 (codes "NoJob")) (codes "task") task
refusal fault.NumberLimit = plain 34 (codes "NumberLimit")
refusal (fault.NotLevel task) = with (plain 35 (codes "NotLevel")) (codes "task") task
refusal fault.WrongCount = plain 36 (codes "WrongCount")
refusal fault.BadKind = plain 41 (codes "BadKind")
refusal fault.BadGoal = plain 42 (codes "BadGoal")
refusal fault.BadData = plain 43 (codes "BadData")
refusal (fault.NotNext task) = with (plain 45 (codes "NotNext")) (codes "task") task
refusal fault.NotAStore = plain 51 (codes "NotAStore")
refusal (fault.Damaged at what) = with_word (with (plain 52 (codes "Damaged")) (codes "at") at) (codes "what") (part_name what)
refusal fault.Device = plain 53 (codes "Device")
refusal fault.Broken = plain 54 (codes "Broken")
refusal (fault.WrongVersion version) = with (plain 55 (codes "WrongVersion")) (codes "version") version
refusal fault.NotEmpty = plain 56 (codes "NotEmpty")
refusal fault.NoRoom = plain 57 (codes "NoRoom")
refusal fault.Busy = plain 58 (codes "Busy")
refusal (fault.StoreFailed marked cause) = with_word (with (plain 61 (codes "StoreFailed")) (codes "marked") marked) (codes "cause") (cause_name cause)
refusal fault.SessionFull = plain 64 (codes "SessionFull")
refusal fault.NoThread = plain 68 (codes "NoThread")
refusal (fault.BadScript at) = with (plain 71 (codes "BadScript")) (codes "at") at
refusal fault.InputFailed = plain 72 (codes "InputFailed")
refusal fault.OutputFailed = plain 73 (codes "OutputFailed")
refusal (fault.LogGap log file) = with (with (plain 74 (codes "LogGap")) (codes "log") log) (codes "file") file
refusal fault.NotALog = plain 75 (codes "NotALog")
refusal (fault.LogDamaged at) = with (plain 76 (codes "LogDamaged")) (codes "at") at
refusal (fault.WrongLogVersion version) = with (plain 77 (codes "WrongLogVersion")) (codes "version") version
refusal fault.NoMemory = plain 90 (codes "NoMemory")

abbrev pub number_of : Fault → ℕ
number_of f = (refusal f).number

abbrev pub name_of : Fault → List ℕ
name_of f = (refusal f).name

-- the exit status by the number: a set or a plan up to 26, a command or the store up to 70, a script, a file or an output up to 73, a log up
-- to 77, memory
abbrev pub status_by : ℕ → ℕ
status_by n = if nat_le n 26 then 3 else (if nat_le n 70 then 4 else (if nat_le n 71 then 7 else (if nat_le n 73 then 8 else (if nat_le n 77 then 4 else 5))))

abbrev pub status_of : Fault → ℕ
status_of f = status_by (number_of f)
