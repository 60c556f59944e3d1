-- The words `run FILE SCRIPT --log LOG --after OLD`, of words that don't begin with a hyphen.
use Rattle.std.proofs.Common.{◌≡◌, Bool, codes, refl, [], ◌∷◌, Some, None, true, false, ◌∙◌, ap, ap₂, ◌&&◌, List}
use Rattle.std.specs.Str.Parse.{starts_with_minus}
use Rattle.clap.specs.Walk.{Text, Held, Walk, value, walked, nothing_held, rows_after, finished}
use Rattle.clap.specs.Takes.{takes, walk_passes, turn_passes, level_passes, step_passes, settle_passes, is_valid}
use Rattle.clap.proofs.OnLiterals.{clap_on_literals}
use Rattle.pfx_program_args.specs.Commands.{pfx_app}
use Rattle.pfx_program_args.specs.Requests.{run, asked, asked_in}
use Rattle.pfx_program_args.proofs.Plain.{waiting_for, with_value, on_from, plain_value_on, plain_value_passes, ends_well, ends_so, and_true}
use Rattle.pfx_program_args.proofs.PlainRun.{run_built, after_file, run_walk, run_walk_passes, walks_well, defaults_well}
use Rattle.pfx_program_args.proofs.PlainLog.{after_log, log_walk, log_walk_passes}

-- the words behind the script
abbrev both_logs : Text → Text → List Text
both_logs log old = codes "--log" ∷ log ∷ codes "--after" ∷ old ∷ []

-- the option waits for its value, and then has it
abbrev old_option : Text → Text → Text → Held
old_option file script log = (walked run_built.rules [] (after_log file script log) (codes "--after")).held

abbrev after_all : Text → Text → Text → Text → Walk
after_all file script log old = with_value run_built (codes "after") (old_option file script log) 3 old

option_waits : (file script log : Text)
    → walked run_built.rules [] (after_log file script log) (codes "--after") ≡ waiting_for (codes "after") (old_option file script log) 3
unfolding clap_on_literals
option_waits file script log = refl

old_walk : (file script log old : Text) → starts_with_minus old ≡ false
    → on_from run_built (after_log file script log) (codes "--after" ∷ old ∷ []) ≡ after_all file script log old
old_walk file script log old i =
    ap (λ (w : Walk). walked run_built.rules [] w old) (option_waits file script log)
    ∙ plain_value_on run_built (codes "after") (old_option file script log) 3 old i

asked_steps : (program file script log old : Text) → asked (program ∷ codes "run" ∷ file ∷ script ∷ both_logs log old)
    ≡ asked_in (Some (codes "run", rows_after run_built.rules [] (file ∷ script ∷ both_logs log old)))
unfolding clap_on_literals asked
asked_steps program file script log old = refl

asked_held : (file script log old : Text)
    → asked_in (Some (codes "run", finished run_built.rules (after_all file script log old).held))
    ≡ Some (run file script None None (Some log) (Some old) false false)
unfolding clap_on_literals
asked_held file script log old = refl

pub plain_after_asked : (program file script log old : Text)
    → starts_with_minus file ≡ false → starts_with_minus script ≡ false → starts_with_minus log ≡ false → starts_with_minus old ≡ false
    → asked (program ∷ codes "run" ∷ file ∷ script ∷ both_logs log old) ≡ Some (run file script None None (Some log) (Some old) false false)
plain_after_asked program file script log old e f g i =
    let rest = codes "--after" ∷ old ∷ [] in
    asked_steps program file script log old
    ∙ ap (λ (w : Walk). asked_in (Some (codes "run", finished run_built.rules w.held)))
    (run_walk file script (both_logs log old) e f ∙ log_walk file script log rest g ∙ old_walk file script log old i)
    ∙ asked_held file script log old

option_passes_here : (file script log : Text) → turn_passes run_built [] (after_log file script log) (codes "--after") ≡ true
unfolding clap_on_literals
option_passes_here file script log = refl

value_passes_here : (file script log old : Text) → starts_with_minus old ≡ false
    → turn_passes run_built [] (waiting_for (codes "after") (old_option file script log) 3) old ≡ true
unfolding clap_on_literals
value_passes_here file script log old i = plain_value_passes run_built (codes "after") (old_option file script log) 3 old i

old_walk_passes : (file script log old : Text) → starts_with_minus old ≡ false
    → walk_passes run_built [] (after_log file script log) (codes "--after" ∷ old ∷ []) ≡ true
unfolding walk_passes
old_walk_passes file script log old i =
    ap₂ (λ (b : Bool) (w : Walk). b && (turn_passes run_built [] w old && true))
    (option_passes_here file script log) (option_waits file script log)
    ∙ and_true (turn_passes run_built [] (waiting_for (codes "after") (old_option file script log) 3) old)
    ∙ value_passes_here file script log old i

takes_steps : (program file script log old : Text) → takes pfx_app (program ∷ codes "run" ∷ file ∷ script ∷ both_logs log old)
    ≡ level_passes run_built [] nothing_held (file ∷ script ∷ both_logs log old) false
unfolding clap_on_literals
takes_steps program file script log old = and_true (level_passes run_built [] nothing_held (file ∷ script ∷ both_logs log old) false)

settles_well : (file script log old : Text)
    → settle_passes run_built.rules run_built.args_override_self (after_all file script log old).held ≡ true
unfolding clap_on_literals
settles_well file script log old = refl

valid_well : (file script log old : Text) → is_valid run_built (finished run_built.rules (after_all file script log old).held) false ≡ true
unfolding clap_on_literals
valid_well file script log old = refl

pub plain_after_taken : (program file script log old : Text)
    → starts_with_minus file ≡ false → starts_with_minus script ≡ false → starts_with_minus log ≡ false → starts_with_minus old ≡ false
    → takes pfx_app (program ∷ codes "run" ∷ file ∷ script ∷ both_logs log old) ≡ true
plain_after_taken program file script log old e f g i =
    let rest = codes "--after" ∷ old ∷ [] in
    let walk = run_walk file script (both_logs log old) e f ∙ log_walk file script log rest g ∙ old_walk file script log old i in
    let passes = run_walk_passes file script (both_logs log old) e f
    ∙ ap (λ (b : Bool). step_passes run_built 1 nothing_held value && (step_passes run_built 2 (after_file file).held value && b))
    (log_walk_passes file script log rest g ∙ old_walk_passes file script log old i) in
    takes_steps program file script log old
    ∙ ap₂ (λ (b : Bool) (w : Walk). ends_well run_built b w.held) passes walk
    ∙ ends_so run_built _ (after_all file script log old).held (walks_well file script) (settles_well file script log old) defaults_well
    (valid_well file script log old)
