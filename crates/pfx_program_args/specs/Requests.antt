-- What the words of a command line ask for.
use Rattle.std.specs.Prelude.{ℕ, Bool, false, ◌&&◌, ◌≤◌, ◌^◌, nat_lt, if◌then◌else◌, codes, List, length, map}
use Rattle.std.specs.Prelude.{Option, Some, None, option_map, option_and_then}
use Rattle.std.specs.Char.{digit_value}
use Rattle.std.specs.List.{list_all}
use Rattle.std.specs.Str.{bytes_eq}
use Rattle.std.specs.Str.Parse.{IsNumeral, digits_value, without_leading_plus}
use Rattle.clap.specs.Walk.{Row, Text, all_of, first_of, one_of}
use Rattle.clap.specs.Simple.{subcommand_of}
use Rattle.pfx_program_args.specs.Commands.{pfx_app}
use Rattle.pfx_program_args.specs.declared.request.AuditForm.{AuditForm}
use Rattle.pfx_program_args.specs.declared.request.AuditForm.TheVariants as form
use Rattle.pfx_program_args.specs.declared.request.Request.{Request}
use Rattle.pfx_program_args.specs.declared.request.Request.TheVariants as request

-- a request, with its texts; the last of those that can be printed as JSON says whether they are
pub data Asked : Type 0 where
  plan : Text → ℕ → Option Text → Bool → Bool → Asked
  init : Text → Text → Option Text → Bool → Asked
  run : Text → Text → Option ℕ → Option ℕ → Option Text → Option Text → Bool → Bool → Asked
  status : Text → Bool → Asked
  replay : Text → Bool → Asked
  show : Text → Option ℕ → Bool → Asked
  draw : Text → ℕ → Option Text → Asked
  check : Text → Bool → Asked
  explain : Text → Bool → Asked
  migrate : Text → Text → Bool → Asked
  audit : List Text → Option ℕ → Option ℕ → Option ℕ → Option ℕ → AuditForm → Asked
  head : Text → Bool → Asked

-- the request that a value of the code is
abbrev pub asked_by : Request → Asked
asked_by (request.Plan set slots at ledger json) = plan set.now slots (option_map (λ s. s.now) at) ledger json
asked_by (request.Init set file at json) = init set.now file.now (option_map (λ s. s.now) at) json
asked_by (request.Run file script workers batch log after strict json) =
    run file.now script.now workers batch (option_map (λ s. s.now) log) (option_map (λ s. s.now) after) strict json
asked_by (request.Status file json) = status file.now json
asked_by (request.Replay file json) = replay file.now json
asked_by (request.Show file task json) = show file.now task json
asked_by (request.Draw set slots at) = draw set.now slots (option_map (λ s. s.now) at)
asked_by (request.Check set json) = check set.now json
asked_by (request.Explain fault json) = explain fault.now json
asked_by (request.Migrate old new json) = migrate old.now new.now json
asked_by (request.Audit logs every from to number form) = audit (map (λ s. s.now) logs.items) every from to number form
asked_by (request.Head log json) = head log.now json

-- one digit or more, of a number of so many bits
abbrev pub is_number : ℕ → Text → Bool
is_number bits ds = nat_lt 0 (length ds) && list_all (λ d. nat_lt (digit_value d) 10) ds && nat_lt (digits_value 10 ds) (2 ^ bits)

-- the number of so many bits that a text writes, where a plus may stand first
abbrev pub number_within : ℕ → Text → Option ℕ
number_within bits text = let ds = without_leading_plus text in if is_number bits ds then Some (digits_value 10 ds) else None

abbrev pub number_of : Text → Option ℕ
number_of text = number_within 32 text

-- the first text that was found for an argument, and all of them
abbrev pub text_at : Text → List Row → Option Text
text_at id rows = first_of id rows

abbrev pub texts_at : Text → List Row → Option (List Text)
texts_at id rows = all_of id rows

-- the number of 32 bits that the first one writes, and that of 64 bits
abbrev pub number_at : Text → List Row → Option ℕ
number_at id rows = option_and_then number_of (one_of id rows)

abbrev pub wide_number_at : Text → List Row → Option ℕ
wide_number_at id rows = option_and_then (λ text. number_within 64 text) (one_of id rows)

-- whether the first text that was found for an argument says so
abbrev pub is_yes : Option Text → Bool
is_yes None = false
is_yes (Some text) = bytes_eq text (codes "true")

abbrev pub flag_at : Text → List Row → Bool
flag_at id rows = is_yes (text_at id rows)

-- a plan, if both its words are there, with the ledger to begin with, if there is one, whether the ledger that it leaves is
-- printed too, and whether it is printed as JSON
abbrev pub plan_of : Option Text → Option ℕ → Option Text → Bool → Bool → Option Asked
plan_of (Some set) (Some slots) at ledger json = Some (plan set slots at ledger json)
plan_of (Some set) None at ledger json = None
plan_of None slots at ledger json = None

-- the plan that is asked for by what was found
abbrev pub plan_in : List Row → Option Asked
plan_in rows =
    plan_of (text_at (codes "SET") rows) (number_at (codes "SLOTS") rows) (text_at (codes "at") rows) (flag_at (codes "ledger") rows)
    (flag_at (codes "json") rows)

-- a new store, if both its words are there, with the ledger to begin with, if there is one, and whether it is told as JSON
abbrev pub init_of : Option Text → Option Text → Option Text → Bool → Option Asked
init_of (Some set) (Some file) at json = Some (init set file at json)
init_of (Some set) None at json = None
init_of None file at json = None

abbrev pub init_in : List Row → Option Asked
init_in rows = init_of (text_at (codes "SET") rows) (text_at (codes "FILE") rows) (text_at (codes "at") rows) (flag_at (codes "json") rows)

-- a run, if both its words are there, with the number of workers, that of slots kept at once, the log, and the one that it goes on
-- from, if there are any, whether it ends at its first refused record, and whether its lines are JSON
abbrev pub run_of : Option Text → Option Text → Option ℕ → Option ℕ → Option Text → Option Text → Bool → Bool → Option Asked
run_of (Some file) (Some script) workers batch log after strict json = Some (run file script workers batch log after strict json)
run_of (Some file) None workers batch log after strict json = None
run_of None script workers batch log after strict json = None

abbrev pub run_in : List Row → Option Asked
run_in rows =
    run_of (text_at (codes "FILE") rows) (text_at (codes "SCRIPT") rows) (number_at (codes "workers") rows)
    (number_at (codes "batch") rows) (text_at (codes "log") rows) (text_at (codes "after") rows)
    (flag_at (codes "strict") rows) (flag_at (codes "json") rows)

-- a look at a store, if its word is there, and whether it is printed as JSON
abbrev pub status_of : Option Text → Bool → Option Asked
status_of (Some file) json = Some (status file json)
status_of None json = None

abbrev pub status_in : List Row → Option Asked
status_in rows = status_of (text_at (codes "FILE") rows) (flag_at (codes "json") rows)

-- a replay of a store, if its word is there, and whether it is told as JSON
abbrev pub replay_of : Option Text → Bool → Option Asked
replay_of (Some file) json = Some (replay file json)
replay_of None json = None

abbrev pub replay_in : List Row → Option Asked
replay_in rows = replay_of (text_at (codes "FILE") rows) (flag_at (codes "json") rows)

-- what the jobs of a store computed, or that of a task, if the store's word is there, and whether it is printed as JSON
abbrev pub show_of : Option Text → Option ℕ → Bool → Option Asked
show_of (Some file) task json = Some (show file task json)
show_of None task json = None

abbrev pub show_in : List Row → Option Asked
show_in rows = show_of (text_at (codes "FILE") rows) (number_at (codes "TASK") rows) (flag_at (codes "json") rows)

-- a picture of a plan, if both its words are there, with the ledger to begin with, if there is one
abbrev pub draw_of : Option Text → Option ℕ → Option Text → Option Asked
draw_of (Some set) (Some slots) at = Some (draw set slots at)
draw_of (Some set) None at = None
draw_of None slots at = None

abbrev pub draw_in : List Row → Option Asked
draw_in rows = draw_of (text_at (codes "SET") rows) (number_at (codes "SLOTS") rows) (text_at (codes "at") rows)

-- a look at a set, if its word is there, and whether it is printed as JSON
abbrev pub check_of : Option Text → Bool → Option Asked
check_of (Some set) json = Some (check set json)
check_of None json = None

abbrev pub check_in : List Row → Option Asked
check_in rows = check_of (text_at (codes "SET") rows) (flag_at (codes "json") rows)

-- what is said of a fault, if its word is there, and whether it is said as JSON
abbrev pub explain_of : Option Text → Bool → Option Asked
explain_of (Some fault) json = Some (explain fault json)
explain_of None json = None

abbrev pub explain_in : List Row → Option Asked
explain_in rows = explain_of (text_at (codes "FAULT") rows) (flag_at (codes "json") rows)

-- a store of this version, if both its words are there, and whether it is told as JSON
abbrev pub migrate_of : Option Text → Option Text → Bool → Option Asked
migrate_of (Some old) (Some new) json = Some (migrate old new json)
migrate_of (Some old) None json = None
migrate_of None new json = None

abbrev pub migrate_in : List Row → Option Asked
migrate_in rows = migrate_of (text_at (codes "OLD") rows) (text_at (codes "NEW") rows) (flag_at (codes "json") rows)

-- how an audit is printed: as JSON where that is asked for, else as CSV where that is, else as text
abbrev pub form_of : Bool → Bool → AuditForm
form_of csv json = if json then form.Json else (if csv then form.Csv else form.Text)

-- an audit of a history, if one path of it is there or more, in their order, with the length and the bounds of the windows, the
-- number of the record that is asked for alone, if there are any, and how it is printed
abbrev pub audit_of : Option (List Text) → Option ℕ → Option ℕ → Option ℕ → Option ℕ → AuditForm → Option Asked
audit_of (Some logs) every from to number form = Some (audit logs every from to number form)
audit_of None every from to number form = None

abbrev pub audit_in : List Row → Option Asked
audit_in rows =
    audit_of (texts_at (codes "LOG") rows) (number_at (codes "every") rows) (wide_number_at (codes "from") rows)
    (wide_number_at (codes "to") rows) (wide_number_at (codes "number") rows)
    (form_of (flag_at (codes "csv") rows) (flag_at (codes "json") rows))

-- a log's last head, if its word is there, and whether it is printed as JSON
abbrev pub head_of : Option Text → Bool → Option Asked
head_of (Some log) json = Some (head log json)
head_of None json = None

abbrev pub head_in : List Row → Option Asked
head_in rows = head_of (text_at (codes "LOG") rows) (flag_at (codes "json") rows)

-- what the subcommand of this name asks for, by what was found for its arguments
abbrev pub asked_of : Text → List Row → Option Asked
asked_of name rows =
    if bytes_eq name (codes "plan") then plan_in rows
    else (if bytes_eq name (codes "init") then init_in rows
    else (if bytes_eq name (codes "run") then run_in rows
    else (if bytes_eq name (codes "status") then status_in rows
    else (if bytes_eq name (codes "replay") then replay_in rows
    else (if bytes_eq name (codes "show") then show_in rows
    else (if bytes_eq name (codes "draw") then draw_in rows
    else (if bytes_eq name (codes "check") then check_in rows
    else (if bytes_eq name (codes "explain") then explain_in rows
    else (if bytes_eq name (codes "migrate") then migrate_in rows
    else (if bytes_eq name (codes "audit") then audit_in rows
    else (if bytes_eq name (codes "head") then head_in rows
    else None)))))))))))

abbrev pub asked_in : Option (Text × List Row) → Option Asked
asked_in None = None
asked_in (Some used) = asked_of used.0 used.1

-- what the words ask for: of the subcommand that they name, with the arguments that follow it
unfoldable pub asked : List Text → Option Asked
asked words = asked_in (subcommand_of pfx_app words)

-- the text is a count of slots in digits: 0 to 1,048,576
abbrev pub IsSlots : Text → Type 0
IsSlots text = IsNumeral 10 text × (digits_value 10 text ≤ 1048576)

-- the text is a number of workers in digits: 0 to 64
abbrev pub IsWorkers : Text → Type 0
IsWorkers text = IsNumeral 10 text × (digits_value 10 text ≤ 64)

-- the text is a number of slots kept at once in digits: 1 to 16
abbrev pub IsBatch : Text → Type 0
IsBatch text = IsNumeral 10 text × (1 ≤ digits_value 10 text) × (digits_value 10 text ≤ 16)

-- the text is a task's number in digits: 0 to 65,535
abbrev pub IsTask : Text → Type 0
IsTask text = IsNumeral 10 text × (digits_value 10 text ≤ 65535)

-- the text is a count of slots that are drawn in digits: 1 to 1,440
abbrev pub IsDrawnSlots : Text → Type 0
IsDrawnSlots text = IsNumeral 10 text × (1 ≤ digits_value 10 text) × (digits_value 10 text ≤ 1440)

-- the text is a number of slots of a window in digits: 1 to 1,048,576
abbrev pub IsWindow : Text → Type 0
IsWindow text = IsNumeral 10 text × (1 ≤ digits_value 10 text) × (digits_value 10 text ≤ 1048576)
