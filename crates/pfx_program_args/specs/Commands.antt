-- The program's command and its subcommands, in the words of `clap`.
use Rattle.std.specs.Prelude.{◌≡◌, false, true, codes, Some, pos}
use Rattle.clap.specs.Lexer.{usize_max}
use Rattle.clap.specs.Walk.{Rule, Text, rule_of}
use Rattle.clap.specs.Simple.{App, app_of, new_app, new_rule, with_rule, with_subcommand, on_top}
use Rattle.clap.specs.declared.builder.action.ArgAction.TheVariants.{SetTrue}
use Rattle.clap.specs.declared.builder.arg.Arg.{Arg}
use Rattle.clap.specs.declared.builder.command.Command.{Command}
use Rattle.clap.specs.declared.builder.command.Command.TheViews.{out-Command}
use Rattle.clap.specs.declared.builder.value_parser.ValueParser.TheVariants as vp

-- a word that has to be there
abbrev pub required : Text → Rule
required id = record (new_rule id) { required = true }

-- a count of slots: 0 to 1,048,576
abbrev pub slots : Rule
slots = record (required (codes "SLOTS")) { parser = Some (vp.Signed (pos 0) (pos 1048576)) }

-- a ledger to begin with, as the value of `--at`
abbrev pub at_ledger : Rule
at_ledger = record (new_rule (codes "at")) { long = Some (codes "at"); value_names = 1 }

-- whether what is printed is JSON: `--json`, which has no value
abbrev pub as_json : Rule
as_json = record (new_rule (codes "json")) { long = Some (codes "json"); action = Some SetTrue }

-- `plan SET SLOTS`
abbrev pub plan_words : App
plan_words = with_rule (with_rule (new_app (codes "plan")) (required (codes "SET"))) slots

-- and `--at LEDGER`, which may be left out
abbrev pub plan_from : App
plan_from = with_rule plan_words at_ledger

-- whether the ledger behind the last slot is printed too: `--ledger`, which has no value
abbrev pub with_ledger : Rule
with_ledger = record (new_rule (codes "ledger")) { long = Some (codes "ledger"); action = Some SetTrue }

-- and `--ledger`
abbrev pub plan_going_on : App
plan_going_on = with_rule plan_from with_ledger

-- and `--json`
abbrev pub plan_app : App
plan_app = with_rule plan_going_on as_json

-- `init SET FILE`
abbrev pub init_words : App
init_words = with_rule (with_rule (new_app (codes "init")) (required (codes "SET"))) (required (codes "FILE"))

-- and `--at LEDGER`, which may be left out
abbrev pub init_from : App
init_from = with_rule init_words at_ledger

-- and `--json`
abbrev pub init_app : App
init_app = with_rule init_from as_json

-- a number of workers: 0 to 64, as the value of `--workers`
abbrev pub workers : Rule
workers = record (new_rule (codes "workers")) { long = Some (codes "workers"); value_names = 1; parser = Some (vp.Signed (pos 0) (pos 64)) }

-- `run FILE SCRIPT`
abbrev pub run_words : App
run_words = with_rule (with_rule (new_app (codes "run")) (required (codes "FILE"))) (required (codes "SCRIPT"))

-- and `--workers N`, which may be left out
abbrev pub run_by_workers : App
run_by_workers = with_rule run_words workers

-- how many slots are kept at once: 1 to 16, as the value of `--batch`
abbrev pub batch : Rule
batch = record (new_rule (codes "batch")) { long = Some (codes "batch"); value_names = 1; parser = Some (vp.Signed (pos 1) (pos 16)) }

-- and `--batch N`, which may be left out too
abbrev pub run_by_batch : App
run_by_batch = with_rule run_by_workers batch

-- whether a run ends at its first refused record: `--strict`, which has no value
abbrev pub strict : Rule
strict = record (new_rule (codes "strict")) { long = Some (codes "strict"); action = Some SetTrue }

-- the file of the log beside the store, as the value of `--log`
abbrev pub beside_log : Rule
beside_log = record (new_rule (codes "log")) { long = Some (codes "log"); value_names = 1 }

-- and `--log LOG`, which may be left out too
abbrev pub run_logged : App
run_logged = with_rule run_by_batch beside_log

-- the log that a new one goes on from, as the value of `--after`
abbrev pub older_log : Rule
older_log = record (new_rule (codes "after")) { long = Some (codes "after"); value_names = 1 }

-- and `--after OLD`, which may be left out too
abbrev pub run_after_log : App
run_after_log = with_rule run_logged older_log

-- and `--strict`
abbrev pub run_strictly : App
run_strictly = with_rule run_after_log strict

-- and `--json`
abbrev pub run_app : App
run_app = with_rule run_strictly as_json

-- `status FILE`
abbrev pub status_words : App
status_words = with_rule (new_app (codes "status")) (required (codes "FILE"))

-- and `--json`
abbrev pub status_app : App
status_app = with_rule status_words as_json

-- `replay FILE`
abbrev pub replay_words : App
replay_words = with_rule (new_app (codes "replay")) (required (codes "FILE"))

-- and `--json`
abbrev pub replay_app : App
replay_app = with_rule replay_words as_json

-- a task by its number: 0 to 65,535, which may be left out
abbrev pub task : Rule
task = record (new_rule (codes "TASK")) { parser = Some (vp.Signed (pos 0) (pos 65535)) }

-- `show FILE`
abbrev pub show_words : App
show_words = with_rule (new_app (codes "show")) (required (codes "FILE"))

-- and a task
abbrev pub show_of_task : App
show_of_task = with_rule show_words task

-- and `--json`
abbrev pub show_app : App
show_app = with_rule show_of_task as_json

-- a count of slots that are drawn: 1 to 1,440
abbrev pub drawn_slots : Rule
drawn_slots = record (required (codes "SLOTS")) { parser = Some (vp.Signed (pos 1) (pos 1440)) }

-- `draw SET SLOTS`
abbrev pub draw_words : App
draw_words = with_rule (with_rule (new_app (codes "draw")) (required (codes "SET"))) drawn_slots

-- and `--at LEDGER`, which may be left out
abbrev pub draw_app : App
draw_app = with_rule draw_words at_ledger

-- `check SET`
abbrev pub check_words : App
check_words = with_rule (new_app (codes "check")) (required (codes "SET"))

-- and `--json`
abbrev pub check_app : App
check_app = with_rule check_words as_json

-- `explain FAULT`
abbrev pub explain_words : App
explain_words = with_rule (new_app (codes "explain")) (required (codes "FAULT"))

-- and `--json`
abbrev pub explain_app : App
explain_app = with_rule explain_words as_json

-- `migrate OLD NEW`
abbrev pub migrate_words : App
migrate_words = with_rule (with_rule (new_app (codes "migrate")) (required (codes "OLD"))) (required (codes "NEW"))

-- and `--json`
abbrev pub migrate_app : App
migrate_app = with_rule migrate_words as_json

-- the paths of a history, one or more
abbrev pub history : Rule
history = record (required (codes "LOG")) { range = Some (record { start_inclusive = 1; end_inclusive = usize_max }) }

-- how many slots a window has: 1 to 1,048,576, as the value of `--every`
abbrev pub every : Rule
every = record (new_rule (codes "every")) { long = Some (codes "every"); value_names = 1; parser = Some (vp.Signed (pos 1) (pos 1048576)) }

-- a number of 0 to 2^48, as the value of the option of this name
abbrev pub numbered : Text → Rule
numbered name = record (new_rule name) { long = Some name; value_names = 1; parser = Some (vp.Unsigned 0 281474976710656) }

-- whether what is printed is CSV: `--csv`, which has no value
abbrev pub as_csv : Rule
as_csv = record (new_rule (codes "csv")) { long = Some (codes "csv"); action = Some SetTrue }

-- `audit LOG..`
abbrev pub audit_words : App
audit_words = with_rule (new_app (codes "audit")) history

-- and the windows of slots by `--every N`, `--from N` and `--to N`, each of which may be left out
abbrev pub audit_in_windows : App
audit_in_windows = with_rule (with_rule (with_rule audit_words every) (numbered (codes "from"))) (numbered (codes "to"))

-- and `--number N`, which may be left out too
abbrev pub audit_of_record : App
audit_of_record = with_rule audit_in_windows (numbered (codes "number"))

-- and `--csv` and `--json`
abbrev pub audit_app : App
audit_app = with_rule (with_rule audit_of_record as_csv) as_json

-- `head LOG`
abbrev pub head_words : App
head_words = with_rule (new_app (codes "head")) (required (codes "LOG"))

-- and `--json`
abbrev pub head_app : App
head_app = with_rule head_words as_json

-- `pfx`: one of its subcommands has to follow, and each of them tells the version too
abbrev pub bare_app : App
bare_app = on_top (λ s. record s { subcommand_required = true; has_version = true; propagate_version = true }) (new_app (codes "pfx"))

-- `pfx` with its subcommands
abbrev pub pfx_app : App
pfx_app =
    with_subcommand
    (with_subcommand
    (with_subcommand
    (with_subcommand
    (with_subcommand
    (with_subcommand
    (with_subcommand (with_subcommand (with_subcommand
    (with_subcommand (with_subcommand (with_subcommand bare_app plan_app.top) init_app.top) run_app.top) status_app.top) replay_app.top) show_app.top)
    draw_app.top)
    check_app.top)
    explain_app.top)
    migrate_app.top)
    audit_app.top)
    head_app.top

-- the command is this one, with no global argument
abbrev pub IsCommand : Command → App → Type 0
IsCommand c app = (app_of c ≡ app) × ((out-Command c).has_globals ≡ false)

-- the argument follows this rule, and is its own command's alone
abbrev pub IsArgument : Arg → Rule → Type 0
IsArgument a rule = (rule_of a ≡ rule) × (a.global ≡ false)
