-- Rows that show which words the command takes, and what they ask for.
use Rattle.std.proofs.Common.{◌≡◌, codes, refl, [], ◌∷◌, List, Some, None, true, false}
use Rattle.clap.specs.Walk.{Text}
use Rattle.clap.specs.Takes.{takes}
use Rattle.clap.specs.Faults.{fault_of}
use Rattle.clap.specs.declared.error.kind.ErrorKind.TheVariants as kind
use Rattle.clap.proofs.OnLiterals.{clap_on_literals}
use Rattle.pfx_program_args.specs.declared.request.AuditForm.TheVariants as form
use Rattle.pfx_program_args.specs.Commands.{pfx_app}
use Rattle.pfx_program_args.specs.Requests.{plan, init, migrate, run, status, replay, show, audit, head, asked}

-- `pfx` and these words
abbrev pfx : List Text → List Text
pfx words = codes "pfx" ∷ words

abbrev first_four : List Text
first_four = pfx (codes "plan" ∷ codes "a.toml" ∷ codes "4" ∷ [])

pub asks_for_a_plan : asked first_four ≡ Some (plan (codes "a.toml") 4 None false false)
unfolding clap_on_literals asked
asks_for_a_plan = refl

pub takes_a_plan : takes pfx_app first_four ≡ true
unfolding clap_on_literals
takes_a_plan = refl

pub asks_for_most_slots : asked (pfx (codes "plan" ∷ codes "--" ∷ codes "-a" ∷ codes "1048576" ∷ [])) ≡ Some (plan (codes "-a") 1048576 None false false)
unfolding clap_on_literals asked
asks_for_most_slots = refl

-- ---- a ledger to begin with

-- `plan` with a ledger after its words
abbrev from_two : List Text
from_two = pfx (codes "plan" ∷ codes "a.toml" ∷ codes "4" ∷ codes "--at" ∷ codes "2:2,1,1" ∷ [])

pub asks_for_a_ledger : asked from_two ≡ Some (plan (codes "a.toml") 4 (Some (codes "2:2,1,1")) false false)
unfolding clap_on_literals asked
asks_for_a_ledger = refl

pub takes_a_ledger : takes pfx_app from_two ≡ true
unfolding clap_on_literals
takes_a_ledger = refl

-- its text is passed on as it is, of any form
pub passes_any_text : asked (pfx (codes "plan" ∷ codes "--at=,:x" ∷ codes "a.toml" ∷ codes "4" ∷ [])) ≡ Some (plan (codes "a.toml") 4 (Some (codes ",:x")) false false)
unfolding clap_on_literals asked
passes_any_text = refl

pub no_ledger : fault_of pfx_app (pfx (codes "plan" ∷ codes "a.toml" ∷ codes "4" ∷ codes "--at" ∷ [])) ≡ kind.InvalidValue ∷ []
unfolding clap_on_literals
no_ledger = refl

pub two_ledgers : fault_of pfx_app (pfx (codes "plan" ∷ codes "a.toml" ∷ codes "4" ∷ codes "--at=0:0" ∷ codes "--at=0:0" ∷ [])) ≡ kind.ArgumentConflict ∷ []
unfolding clap_on_literals
two_ledgers = refl

-- and with the ledger that it leaves, as JSON too
pub asks_for_what_it_leaves : asked (pfx (codes "plan" ∷ codes "--ledger" ∷ codes "a.toml" ∷ codes "4" ∷ codes "--json" ∷ codes "--at=2:2,1,1" ∷ [])) ≡ Some (plan (codes "a.toml") 4 (Some (codes "2:2,1,1")) true true)
unfolding clap_on_literals asked
asks_for_what_it_leaves = refl

pub no_value_of_a_flag : fault_of pfx_app (pfx (codes "plan" ∷ codes "a.toml" ∷ codes "4" ∷ codes "--ledger=2:2,1,1" ∷ [])) ≡ kind.TooManyValues ∷ []
unfolding clap_on_literals
no_value_of_a_flag = refl

-- ---- stores

abbrev new_store : List Text
new_store = pfx (codes "init" ∷ codes "a.toml" ∷ codes "a.pfx" ∷ [])

pub asks_for_a_store : asked new_store ≡ Some (init (codes "a.toml") (codes "a.pfx") None false)
unfolding clap_on_literals asked
asks_for_a_store = refl

pub takes_a_store : takes pfx_app new_store ≡ true
unfolding clap_on_literals
takes_a_store = refl

pub asks_for_a_store_at : asked (pfx (codes "init" ∷ codes "--at=2:2,1,1" ∷ codes "a.toml" ∷ codes "a.pfx" ∷ [])) ≡ Some (init (codes "a.toml") (codes "a.pfx") (Some (codes "2:2,1,1")) false)
unfolding clap_on_literals asked
asks_for_a_store_at = refl

abbrev migrate_store : List Text
migrate_store = pfx (codes "migrate" ∷ codes "a.pfx" ∷ codes "b.pfx" ∷ [])

pub asks_for_a_store_of_this_version : asked migrate_store ≡ Some (migrate (codes "a.pfx") (codes "b.pfx") false)
unfolding clap_on_literals asked
asks_for_a_store_of_this_version = refl

pub takes_a_store_of_this_version : takes pfx_app migrate_store ≡ true
unfolding clap_on_literals
takes_a_store_of_this_version = refl

abbrev run_script : List Text
run_script = pfx (codes "run" ∷ codes "a.pfx" ∷ codes "a.csv" ∷ [])

pub asks_for_a_run : asked run_script ≡ Some (run (codes "a.pfx") (codes "a.csv") None None None None false false)
unfolding clap_on_literals asked
asks_for_a_run = refl

pub takes_a_run : takes pfx_app run_script ≡ true
unfolding clap_on_literals
takes_a_run = refl

-- with a number of workers, the least and the greatest, after the words or before them
abbrev run_by_none : List Text
run_by_none = pfx (codes "run" ∷ codes "a.pfx" ∷ codes "a.csv" ∷ codes "--workers" ∷ codes "0" ∷ [])

pub asks_for_no_workers : asked run_by_none ≡ Some (run (codes "a.pfx") (codes "a.csv") (Some 0) None None None false false)
unfolding clap_on_literals asked
asks_for_no_workers = refl

pub takes_no_workers : takes pfx_app run_by_none ≡ true
unfolding clap_on_literals
takes_no_workers = refl

pub asks_for_most_workers : asked (pfx (codes "run" ∷ codes "--workers=64" ∷ codes "a.pfx" ∷ codes "a.csv" ∷ [])) ≡ Some (run (codes "a.pfx") (codes "a.csv") (Some 64) None None None false false)
unfolding clap_on_literals asked
asks_for_most_workers = refl

-- with a number of slots kept at once, the least and the greatest, and with both
abbrev run_in_batches : List Text
run_in_batches = pfx (codes "run" ∷ codes "a.pfx" ∷ codes "a.csv" ∷ codes "--workers" ∷ codes "0" ∷ codes "--batch" ∷ codes "16" ∷ [])

pub asks_for_batches : asked run_in_batches ≡ Some (run (codes "a.pfx") (codes "a.csv") (Some 0) (Some 16) None None false false)
unfolding clap_on_literals asked
asks_for_batches = refl

pub takes_batches : takes pfx_app run_in_batches ≡ true
unfolding clap_on_literals
takes_batches = refl

pub asks_for_a_strict_run : asked (pfx (codes "run" ∷ codes "--strict" ∷ codes "a.pfx" ∷ codes "a.csv" ∷ codes "--batch=1" ∷ [])) ≡ Some (run (codes "a.pfx") (codes "a.csv") None (Some 1) None None true false)
unfolding clap_on_literals asked
asks_for_a_strict_run = refl

pub asks_for_least_batch : asked (pfx (codes "run" ∷ codes "--batch=1" ∷ codes "a.pfx" ∷ codes "a.csv" ∷ [])) ≡ Some (run (codes "a.pfx") (codes "a.csv") None (Some 1) None None false false)
unfolding clap_on_literals asked
asks_for_least_batch = refl

-- with a log, and the one that it goes on from
abbrev run_on_from : List Text
run_on_from = pfx (codes "run" ∷ codes "a.pfx" ∷ codes "a.csv" ∷ codes "--log" ∷ codes "b.log" ∷ codes "--after" ∷ codes "a.log" ∷ [])

pub asks_for_a_later_log : asked run_on_from
    ≡ Some (run (codes "a.pfx") (codes "a.csv") None None (Some (codes "b.log")) (Some (codes "a.log")) false false)
unfolding clap_on_literals asked
asks_for_a_later_log = refl

pub takes_a_later_log : takes pfx_app run_on_from ≡ true
unfolding clap_on_literals
takes_a_later_log = refl

abbrev show_store : List Text
show_store = pfx (codes "status" ∷ codes "a.pfx" ∷ [])

pub asks_for_a_board : asked show_store ≡ Some (status (codes "a.pfx") false)
unfolding clap_on_literals asked
asks_for_a_board = refl

pub takes_a_board : takes pfx_app show_store ≡ true
unfolding clap_on_literals
takes_a_board = refl

abbrev replay_store : List Text
replay_store = pfx (codes "replay" ∷ codes "a.pfx" ∷ [])

pub asks_for_a_replay : asked replay_store ≡ Some (replay (codes "a.pfx") false)
unfolding clap_on_literals asked
asks_for_a_replay = refl

pub takes_a_replay : takes pfx_app replay_store ≡ true
unfolding clap_on_literals
takes_a_replay = refl

-- what its jobs have computed, and that of one task
abbrev show_jobs : List Text
show_jobs = pfx (codes "show" ∷ codes "a.pfx" ∷ [])

pub asks_for_the_jobs : asked show_jobs ≡ Some (show (codes "a.pfx") None false)
unfolding clap_on_literals asked
asks_for_the_jobs = refl

pub takes_the_jobs : takes pfx_app show_jobs ≡ true
unfolding clap_on_literals
takes_the_jobs = refl

pub asks_for_one_job : asked (pfx (codes "show" ∷ codes "a.pfx" ∷ codes "2" ∷ [])) ≡ Some (show (codes "a.pfx") (Some 2) false)
unfolding clap_on_literals asked
asks_for_one_job = refl

-- ---- histories

-- one log or several, with paths behind an option too
pub asks_for_an_audit : asked (pfx (codes "audit" ∷ codes "a.log" ∷ [])) ≡ Some (audit (codes "a.log" ∷ []) None None None None form.Text)
unfolding clap_on_literals asked
asks_for_an_audit = refl

abbrev audit_all : List Text
audit_all = pfx (codes "audit" ∷ codes "a.log" ∷ codes "b.log" ∷ codes "--every" ∷ codes "1440" ∷ codes "a.pfx" ∷ codes "--csv" ∷ [])

pub asks_for_an_audit_of_all : asked audit_all ≡ Some (audit (codes "a.log" ∷ codes "b.log" ∷ codes "a.pfx" ∷ []) (Some 1440) None None None form.Csv)
unfolding clap_on_literals asked
asks_for_an_audit_of_all = refl

pub takes_an_audit_of_all : takes pfx_app audit_all ≡ true
unfolding clap_on_literals
takes_an_audit_of_all = refl

-- the least and the greatest bounds, and JSON before CSV
abbrev audit_between : List Text
audit_between = pfx (codes "audit" ∷ codes "--json" ∷ codes "--csv" ∷ codes "--from=0" ∷ codes "--to=281474976710656" ∷ codes "a.log" ∷ [])

pub asks_for_bounds : asked audit_between ≡ Some (audit (codes "a.log" ∷ []) None (Some 0) (Some 281474976710656) None form.Json)
unfolding clap_on_literals asked
asks_for_bounds = refl

pub takes_bounds : takes pfx_app audit_between ≡ true
unfolding clap_on_literals
takes_bounds = refl

pub asks_for_a_record : asked (pfx (codes "audit" ∷ codes "a.log" ∷ codes "--number" ∷ codes "4294967296" ∷ [])) ≡ Some (audit (codes "a.log" ∷ []) None None None (Some 4294967296) form.Text)
unfolding clap_on_literals asked
asks_for_a_record = refl

pub asks_for_a_head : asked (pfx (codes "head" ∷ codes "a.log" ∷ [])) ≡ Some (head (codes "a.log") false)
unfolding clap_on_literals asked
asks_for_a_head = refl

-- ---- words that are refused

pub no_history : fault_of pfx_app (pfx (codes "audit" ∷ codes "--every=1" ∷ [])) ≡ kind.MissingRequiredArgument ∷ []
unfolding clap_on_literals
no_history = refl

pub empty_windows : fault_of pfx_app (pfx (codes "audit" ∷ codes "a.log" ∷ codes "--every=0" ∷ [])) ≡ kind.ValueValidation ∷ []
unfolding clap_on_literals
empty_windows = refl

pub too_large_windows : fault_of pfx_app (pfx (codes "audit" ∷ codes "a.log" ∷ codes "--every=1048577" ∷ [])) ≡ kind.ValueValidation ∷ []
unfolding clap_on_literals
too_large_windows = refl

pub too_large_bound : fault_of pfx_app (pfx (codes "audit" ∷ codes "a.log" ∷ codes "--to=281474976710657" ∷ [])) ≡ kind.ValueValidation ∷ []
unfolding clap_on_literals
too_large_bound = refl

pub heads_of_two_logs : fault_of pfx_app (pfx (codes "head" ∷ codes "a.log" ∷ codes "b.log" ∷ [])) ≡ kind.UnknownArgument ∷ []
unfolding clap_on_literals
heads_of_two_logs = refl

pub too_large_task : fault_of pfx_app (pfx (codes "show" ∷ codes "a.pfx" ∷ codes "65536" ∷ [])) ≡ kind.ValueValidation ∷ []
unfolding clap_on_literals
too_large_task = refl

pub too_many_slots : fault_of pfx_app (pfx (codes "plan" ∷ codes "a.toml" ∷ codes "1048577" ∷ [])) ≡ kind.ValueValidation ∷ []
unfolding clap_on_literals
too_many_slots = refl

pub no_slots : fault_of pfx_app (pfx (codes "plan" ∷ codes "a.toml" ∷ [])) ≡ kind.MissingRequiredArgument ∷ []
unfolding clap_on_literals
no_slots = refl

pub no_subcommand : fault_of pfx_app (pfx []) ≡ kind.MissingSubcommand ∷ []
unfolding clap_on_literals
no_subcommand = refl

pub help_of_plan : fault_of pfx_app (pfx (codes "plan" ∷ codes "--help" ∷ [])) ≡ kind.DisplayHelp ∷ []
unfolding clap_on_literals
help_of_plan = refl

pub version_of_plan : fault_of pfx_app (pfx (codes "plan" ∷ codes "-V" ∷ [])) ≡ kind.DisplayVersion ∷ []
unfolding clap_on_literals
version_of_plan = refl

pub no_file_to_make : fault_of pfx_app (pfx (codes "init" ∷ codes "a.toml" ∷ [])) ≡ kind.MissingRequiredArgument ∷ []
unfolding clap_on_literals
no_file_to_make = refl

pub no_file_to_migrate_to : fault_of pfx_app (pfx (codes "migrate" ∷ codes "a.pfx" ∷ [])) ≡ kind.MissingRequiredArgument ∷ []
unfolding clap_on_literals
no_file_to_migrate_to = refl

pub no_script : fault_of pfx_app (pfx (codes "run" ∷ codes "a.pfx" ∷ [])) ≡ kind.MissingRequiredArgument ∷ []
unfolding clap_on_literals
no_script = refl

pub no_file_to_show : fault_of pfx_app (pfx (codes "status" ∷ [])) ≡ kind.MissingRequiredArgument ∷ []
unfolding clap_on_literals
no_file_to_show = refl

pub two_files_to_show : fault_of pfx_app (pfx (codes "status" ∷ codes "a.pfx" ∷ codes "b.pfx" ∷ [])) ≡ kind.UnknownArgument ∷ []
unfolding clap_on_literals
two_files_to_show = refl

pub no_file_to_replay : fault_of pfx_app (pfx (codes "replay" ∷ [])) ≡ kind.MissingRequiredArgument ∷ []
unfolding clap_on_literals
no_file_to_replay = refl

pub two_files_to_replay : fault_of pfx_app (pfx (codes "replay" ∷ codes "a.pfx" ∷ codes "b.pfx" ∷ [])) ≡ kind.UnknownArgument ∷ []
unfolding clap_on_literals
two_files_to_replay = refl

pub too_many_workers : fault_of pfx_app (pfx (codes "run" ∷ codes "a.pfx" ∷ codes "a.csv" ∷ codes "--workers" ∷ codes "65" ∷ [])) ≡ kind.ValueValidation ∷ []
unfolding clap_on_literals
too_many_workers = refl

pub workers_in_words : fault_of pfx_app (pfx (codes "run" ∷ codes "a.pfx" ∷ codes "a.csv" ∷ codes "--workers" ∷ codes "two" ∷ [])) ≡ kind.ValueValidation ∷ []
unfolding clap_on_literals
workers_in_words = refl

pub workers_twice : fault_of pfx_app (pfx (codes "run" ∷ codes "a.pfx" ∷ codes "a.csv" ∷ codes "--workers=2" ∷ codes "--workers=2" ∷ [])) ≡ kind.ArgumentConflict ∷ []
unfolding clap_on_literals
workers_twice = refl

pub workers_of_a_store : fault_of pfx_app (pfx (codes "init" ∷ codes "a.toml" ∷ codes "a.pfx" ∷ codes "--workers=2" ∷ [])) ≡ kind.UnknownArgument ∷ []
unfolding clap_on_literals
workers_of_a_store = refl

pub no_batch : fault_of pfx_app (pfx (codes "run" ∷ codes "a.pfx" ∷ codes "a.csv" ∷ codes "--batch" ∷ codes "0" ∷ [])) ≡ kind.ValueValidation ∷ []
unfolding clap_on_literals
no_batch = refl

pub too_large_batch : fault_of pfx_app (pfx (codes "run" ∷ codes "a.pfx" ∷ codes "a.csv" ∷ codes "--batch" ∷ codes "17" ∷ [])) ≡ kind.ValueValidation ∷ []
unfolding clap_on_literals
too_large_batch = refl
