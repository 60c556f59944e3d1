-- The words `plan SET SLOTS --json`, `run FILE SCRIPT --json`, `status FILE --json` and `show FILE --json`, of words that don't begin with a hyphen.
use Rattle.std.proofs.Common.{◌≡◌, ℕ, Bool, codes, refl, [], ◌∷◌, Some, None, true, false, pos, ◌∙◌, ap, ap₂, ◌&&◌, arith, List}
use Rattle.std.specs.Prelude.{◌==◌}
use Rattle.std.specs.List.{list_all}
use Rattle.std.specs.Str.Parse.{digits_value, starts_with_minus}
use Rattle.clap.specs.Walk.{Text, Walk, value, walked, walk_from, nothing_held, rows_after, finished}
use Rattle.clap.specs.Lexer.{without_minus}
use Rattle.clap.specs.Takes.{takes, walk_passes, level_passes, step_passes, settle_passes, default_passes, is_valid}
use Rattle.clap.specs.ValueTests.{is_signed_in}
use Rattle.clap.proofs.OnLiterals.{clap_on_literals}
use Rattle.pfx_program_args.specs.Commands.{pfx_app}
use Rattle.pfx_program_args.specs.Requests.{IsSlots, plan, plan_of, run, status, show, number_of, asked, asked_in}
use Rattle.pfx_program_args.proofs.Numbers.{no_sign, number_written, number_passes}
use Rattle.pfx_program_args.proofs.Plain.{on_from, plain_on, plain_passes, ends_well, ends_so, plain_minus, and_true}
use Rattle.pfx_program_args.proofs.PlainPlan.{plan_built, after_set, after_both}
use Rattle.pfx_program_args.proofs.PlainRun as of_run
use Rattle.pfx_program_args.proofs.PlainRun.{run_built, run_walk, run_walk_passes}
use Rattle.pfx_program_args.proofs.PlainStatus as of_status
use Rattle.pfx_program_args.proofs.PlainStatus.{status_built}
use Rattle.pfx_program_args.proofs.PlainShow as of_show
use Rattle.pfx_program_args.proofs.PlainShow.{show_built}

abbrev flag : List Text
flag = codes "--json" ∷ []

-- ---- a plan

-- the flag is held too
abbrev plan_all : Text → Text → Walk
plan_all set slots = walked plan_built.rules [] (after_both set slots) (codes "--json")

plan_walk : (set slots : Text) → starts_with_minus set ≡ false → starts_with_minus slots ≡ false
    → on_from plan_built (walk_from nothing_held) (set ∷ slots ∷ flag) ≡ on_from plan_built (after_both set slots) flag
plan_walk set slots e f = plain_on plan_built nothing_held 1 set (slots ∷ flag) e ∙ plain_on plan_built (after_set set).held 2 slots flag f

plan_asked_steps : (program set slots : Text) → asked (program ∷ codes "plan" ∷ set ∷ slots ∷ flag) ≡ asked_in (Some (codes "plan", rows_after plan_built.rules [] (set ∷ slots ∷ flag)))
unfolding clap_on_literals asked
plan_asked_steps program set slots = refl

plan_asked_held : (set slots : Text) → asked_in (Some (codes "plan", finished plan_built.rules (plan_all set slots).held)) ≡ plan_of (Some set) (number_of (without_minus slots)) None false true
unfolding clap_on_literals
plan_asked_held set slots = refl

plan_asked : (program set : Text) (d : ℕ) (ds : Text) → starts_with_minus set ≡ false → (d == 45) ≡ false
    → asked (program ∷ codes "plan" ∷ set ∷ (d ∷ ds) ∷ flag) ≡ plan_of (Some set) (number_of (d ∷ ds)) None false true
plan_asked program set d ds e f =
    plan_asked_steps program set (d ∷ ds) ∙ ap (λ (w : Walk). asked_in (Some (codes "plan", finished plan_built.rules w.held))) (plan_walk set (d ∷ ds) e f)
    ∙ (plan_asked_held set (d ∷ ds) ∙ ap (λ (t : Text). plan_of (Some set) (number_of t) None false true) (plain_minus d ds f))

pub json_plan_asked : (program set slots : Text) → starts_with_minus set ≡ false → IsSlots slots
    → asked (program ∷ codes "plan" ∷ set ∷ slots ∷ codes "--json" ∷ []) ≡ Some (plan set (digits_value 10 slots) None false true)
json_plan_asked program set [] e h = absurd (omega (arith, h.0.0))
json_plan_asked program set (d ∷ ds) e h = plan_asked program set d ds e (no_sign d ds h.0).0 ∙ ap (λ n. plan_of (Some set) n None false true) (number_written 1048576 d ds h.0 h.1 (omega arith))

plan_walk_passes : (set slots : Text) → starts_with_minus set ≡ false → starts_with_minus slots ≡ false
    → walk_passes plan_built [] (walk_from nothing_held) (set ∷ slots ∷ flag)
    ≡ (step_passes plan_built 1 nothing_held value && (step_passes plan_built 2 (after_set set).held value && walk_passes plan_built [] (after_both set slots) flag))
plan_walk_passes set slots e f =
    plain_passes plan_built nothing_held 1 set (slots ∷ flag) e
    ∙ ap (λ (b : Bool). step_passes plan_built 1 nothing_held value && b) (plain_passes plan_built (after_set set).held 2 slots flag f)

plan_takes_steps : (program set slots : Text) → takes pfx_app (program ∷ codes "plan" ∷ set ∷ slots ∷ flag) ≡ level_passes plan_built [] nothing_held (set ∷ slots ∷ flag) false
unfolding clap_on_literals
plan_takes_steps program set slots = and_true (level_passes plan_built [] nothing_held (set ∷ slots ∷ flag) false)

-- the number is looked at if the flag follows
plan_walks_well : (set slots : Text) → is_signed_in (pos 0) (pos 1048576) slots ≡ true
    → (step_passes plan_built 1 nothing_held value && (step_passes plan_built 2 (after_set set).held value && walk_passes plan_built [] (after_both set slots) flag)) ≡ true
unfolding clap_on_literals
plan_walks_well set slots g = rw g refl

plan_settles_well : (set slots : Text) → settle_passes plan_built.rules plan_built.args_override_self (plan_all set slots).held ≡ true
unfolding clap_on_literals
plan_settles_well set slots = refl

plan_defaults_well : list_all default_passes plan_built.rules ≡ true
unfolding clap_on_literals
plan_defaults_well = refl

plan_valid_well : (set slots : Text) → is_valid plan_built (finished plan_built.rules (plan_all set slots).held) false ≡ true
unfolding clap_on_literals
plan_valid_well set slots = refl

plan_well_held : (set slots : Text) → is_signed_in (pos 0) (pos 1048576) slots ≡ true
    → ends_well plan_built (step_passes plan_built 1 nothing_held value && (step_passes plan_built 2 (after_set set).held value && walk_passes plan_built [] (after_both set slots) flag))
    (plan_all set slots).held ≡ true
plan_well_held set slots g =
    ends_so plan_built _ (plan_all set slots).held (plan_walks_well set slots g) (plan_settles_well set slots) plan_defaults_well (plan_valid_well set slots)

plan_taken : (program set slots : Text) → starts_with_minus set ≡ false → starts_with_minus slots ≡ false → is_signed_in (pos 0) (pos 1048576) slots ≡ true
    → takes pfx_app (program ∷ codes "plan" ∷ set ∷ slots ∷ flag) ≡ true
plan_taken program set slots e f g =
    plan_takes_steps program set slots ∙ ap₂ (λ (b : Bool) (w : Walk). ends_well plan_built b w.held) (plan_walk_passes set slots e f) (plan_walk set slots e f) ∙ plan_well_held set slots g

pub json_plan_taken : (program set slots : Text) → starts_with_minus set ≡ false → IsSlots slots → takes pfx_app (program ∷ codes "plan" ∷ set ∷ slots ∷ codes "--json" ∷ []) ≡ true
json_plan_taken program set [] e h = absurd (omega (arith, h.0.0))
json_plan_taken program set (d ∷ ds) e h = plan_taken program set (d ∷ ds) e (no_sign d ds h.0).0 (number_passes 0 1048576 d ds h.0 (omega arith) h.1 (omega arith))

-- ---- a run

abbrev run_all : Text → Text → Walk
run_all file script = walked run_built.rules [] (of_run.after_both file script) (codes "--json")

run_asked_steps : (program file script : Text) → asked (program ∷ codes "run" ∷ file ∷ script ∷ flag) ≡ asked_in (Some (codes "run", rows_after run_built.rules [] (file ∷ script ∷ flag)))
unfolding clap_on_literals asked
run_asked_steps program file script = refl

run_asked_held : (file script : Text) → asked_in (Some (codes "run", finished run_built.rules (run_all file script).held)) ≡ Some (run file script None None None None false true)
unfolding clap_on_literals
run_asked_held file script = refl

pub json_run_asked : (program file script : Text) → starts_with_minus file ≡ false → starts_with_minus script ≡ false
    → asked (program ∷ codes "run" ∷ file ∷ script ∷ codes "--json" ∷ []) ≡ Some (run file script None None None None false true)
json_run_asked program file script e f =
    run_asked_steps program file script ∙ ap (λ (w : Walk). asked_in (Some (codes "run", finished run_built.rules w.held))) (run_walk file script flag e f) ∙ run_asked_held file script

run_takes_steps : (program file script : Text) → takes pfx_app (program ∷ codes "run" ∷ file ∷ script ∷ flag) ≡ level_passes run_built [] nothing_held (file ∷ script ∷ flag) false
unfolding clap_on_literals
run_takes_steps program file script = and_true (level_passes run_built [] nothing_held (file ∷ script ∷ flag) false)

run_well_held : (file script : Text)
    → ends_well run_built (step_passes run_built 1 nothing_held value
    && (step_passes run_built 2 (of_run.after_file file).held value && walk_passes run_built [] (of_run.after_both file script) flag)) (run_all file script).held ≡ true
unfolding clap_on_literals
run_well_held file script = refl

pub json_run_taken : (program file script : Text) → starts_with_minus file ≡ false → starts_with_minus script ≡ false → takes pfx_app (program ∷ codes "run" ∷ file ∷ script ∷ codes "--json" ∷ []) ≡ true
json_run_taken program file script e f =
    run_takes_steps program file script
    ∙ ap₂ (λ (b : Bool) (w : Walk). ends_well run_built b w.held) (run_walk_passes file script flag e f) (run_walk file script flag e f)
    ∙ run_well_held file script

-- ---- a board

abbrev status_all : Text → Walk
status_all file = walked status_built.rules [] (of_status.after_file file) (codes "--json")

status_walk : (file : Text) → starts_with_minus file ≡ false → on_from status_built (walk_from nothing_held) (file ∷ flag) ≡ on_from status_built (of_status.after_file file) flag
status_walk file e = plain_on status_built nothing_held 1 file flag e

status_asked_steps : (program file : Text) → asked (program ∷ codes "status" ∷ file ∷ flag) ≡ asked_in (Some (codes "status", rows_after status_built.rules [] (file ∷ flag)))
unfolding clap_on_literals asked
status_asked_steps program file = refl

status_asked_held : (file : Text) → asked_in (Some (codes "status", finished status_built.rules (status_all file).held)) ≡ Some (status file true)
unfolding clap_on_literals
status_asked_held file = refl

pub json_status_asked : (program file : Text) → starts_with_minus file ≡ false → asked (program ∷ codes "status" ∷ file ∷ codes "--json" ∷ []) ≡ Some (status file true)
json_status_asked program file e =
    status_asked_steps program file ∙ ap (λ (w : Walk). asked_in (Some (codes "status", finished status_built.rules w.held))) (status_walk file e) ∙ status_asked_held file

status_walk_passes : (file : Text) → starts_with_minus file ≡ false
    → walk_passes status_built [] (walk_from nothing_held) (file ∷ flag) ≡ (step_passes status_built 1 nothing_held value && walk_passes status_built [] (of_status.after_file file) flag)
status_walk_passes file e = plain_passes status_built nothing_held 1 file flag e

status_takes_steps : (program file : Text) → takes pfx_app (program ∷ codes "status" ∷ file ∷ flag) ≡ level_passes status_built [] nothing_held (file ∷ flag) false
unfolding clap_on_literals
status_takes_steps program file = and_true (level_passes status_built [] nothing_held (file ∷ flag) false)

status_well_held : (file : Text) → ends_well status_built (step_passes status_built 1 nothing_held value && walk_passes status_built [] (of_status.after_file file) flag) (status_all file).held ≡ true
unfolding clap_on_literals
status_well_held file = refl

pub json_status_taken : (program file : Text) → starts_with_minus file ≡ false → takes pfx_app (program ∷ codes "status" ∷ file ∷ codes "--json" ∷ []) ≡ true
json_status_taken program file e =
    status_takes_steps program file ∙ ap₂ (λ (b : Bool) (w : Walk). ends_well status_built b w.held) (status_walk_passes file e) (status_walk file e) ∙ status_well_held file

-- ---- what jobs have computed

abbrev show_all : Text → Walk
show_all file = walked show_built.rules [] (of_show.after_file file) (codes "--json")

show_walk : (file : Text) → starts_with_minus file ≡ false → on_from show_built (walk_from nothing_held) (file ∷ flag) ≡ on_from show_built (of_show.after_file file) flag
show_walk file e = plain_on show_built nothing_held 1 file flag e

show_asked_steps : (program file : Text) → asked (program ∷ codes "show" ∷ file ∷ flag) ≡ asked_in (Some (codes "show", rows_after show_built.rules [] (file ∷ flag)))
unfolding clap_on_literals asked
show_asked_steps program file = refl

show_asked_held : (file : Text) → asked_in (Some (codes "show", finished show_built.rules (show_all file).held)) ≡ Some (show file None true)
unfolding clap_on_literals
show_asked_held file = refl

pub json_show_asked : (program file : Text) → starts_with_minus file ≡ false → asked (program ∷ codes "show" ∷ file ∷ codes "--json" ∷ []) ≡ Some (show file None true)
json_show_asked program file e =
    show_asked_steps program file ∙ ap (λ (w : Walk). asked_in (Some (codes "show", finished show_built.rules w.held))) (show_walk file e) ∙ show_asked_held file

show_walk_passes : (file : Text) → starts_with_minus file ≡ false
    → walk_passes show_built [] (walk_from nothing_held) (file ∷ flag) ≡ (step_passes show_built 1 nothing_held value && walk_passes show_built [] (of_show.after_file file) flag)
show_walk_passes file e = plain_passes show_built nothing_held 1 file flag e

show_takes_steps : (program file : Text) → takes pfx_app (program ∷ codes "show" ∷ file ∷ flag) ≡ level_passes show_built [] nothing_held (file ∷ flag) false
unfolding clap_on_literals
show_takes_steps program file = and_true (level_passes show_built [] nothing_held (file ∷ flag) false)

show_well_held : (file : Text) → ends_well show_built (step_passes show_built 1 nothing_held value && walk_passes show_built [] (of_show.after_file file) flag) (show_all file).held ≡ true
unfolding clap_on_literals
show_well_held file = refl

pub json_show_taken : (program file : Text) → starts_with_minus file ≡ false → takes pfx_app (program ∷ codes "show" ∷ file ∷ codes "--json" ∷ []) ≡ true
json_show_taken program file e =
    show_takes_steps program file ∙ ap₂ (λ (b : Bool) (w : Walk). ends_well show_built b w.held) (show_walk_passes file e) (show_walk file e) ∙ show_well_held file
