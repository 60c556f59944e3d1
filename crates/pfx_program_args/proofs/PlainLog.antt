-- The words `run FILE SCRIPT --log LOG`, of words that don't begin with a hyphen.
use Rattle.std.proofs.Common.{◌≡◌, Bool, codes, refl, [], ◌∷◌, Some, None, true, false, ◌∙◌, ap, ap₂, ◌&&◌, List}
use Rattle.std.specs.List.{list_all}
use Rattle.std.specs.Str.Parse.{starts_with_minus}
use Rattle.clap.specs.Walk.{Text, Held, Walk, value, walked, nothing_held, rows_after, finished}
use Rattle.clap.specs.Takes.{takes, walk_passes, turn_passes, level_passes, step_passes, settle_passes, default_passes, is_valid}
use Rattle.clap.proofs.OnLiterals.{clap_on_literals}
use Rattle.pfx_program_args.specs.Commands.{pfx_app}
use Rattle.pfx_program_args.specs.Requests.{run, asked, asked_in}
use Rattle.pfx_program_args.proofs.Plain.{waiting_for, with_value, on_from, plain_value_on, plain_value_passes, ends_well, ends_so, and_true}
use Rattle.pfx_program_args.proofs.PlainRun.{run_built, after_file, after_both, run_walk, run_walk_passes}

-- the option waits for its value, and then has it
abbrev log_option : Text → Text → Held
log_option file script = (walked run_built.rules [] (after_both file script) (codes "--log")).held

abbrev pub after_log : Text → Text → Text → Walk
after_log file script log = with_value run_built (codes "log") (log_option file script) 3 log

option_waits : (file script : Text) → walked run_built.rules [] (after_both file script) (codes "--log") ≡ waiting_for (codes "log") (log_option file script) 3
unfolding clap_on_literals
option_waits file script = refl

pub log_walk : (file script log : Text) (rest : List Text) → starts_with_minus log ≡ false
    → on_from run_built (after_both file script) (codes "--log" ∷ log ∷ rest) ≡ on_from run_built (after_log file script log) rest
log_walk file script log rest g =
    ap (λ (w : Walk). on_from run_built (walked run_built.rules [] w log) rest) (option_waits file script)
    ∙ ap (λ (w : Walk). on_from run_built w rest) (plain_value_on run_built (codes "log") (log_option file script) 3 log g)

asked_steps : (program file script log : Text) → asked (program ∷ codes "run" ∷ file ∷ script ∷ codes "--log" ∷ log ∷ [])
    ≡ asked_in (Some (codes "run", rows_after run_built.rules [] (file ∷ script ∷ codes "--log" ∷ log ∷ [])))
unfolding clap_on_literals asked
asked_steps program file script log = refl

asked_held : (file script log : Text) → asked_in (Some (codes "run", finished run_built.rules (after_log file script log).held)) ≡ Some (run file script None None (Some log) None false false)
unfolding clap_on_literals
asked_held file script log = refl

pub plain_log_asked : (program file script log : Text) → starts_with_minus file ≡ false → starts_with_minus script ≡ false → starts_with_minus log ≡ false
    → asked (program ∷ codes "run" ∷ file ∷ script ∷ codes "--log" ∷ log ∷ []) ≡ Some (run file script None None (Some log) None false false)
plain_log_asked program file script log e f g =
    asked_steps program file script log
    ∙ ap (λ (w : Walk). asked_in (Some (codes "run", finished run_built.rules w.held))) (run_walk file script (codes "--log" ∷ log ∷ []) e f ∙ log_walk file script log [] g)
    ∙ asked_held file script log

option_passes_here : (file script : Text) → turn_passes run_built [] (after_both file script) (codes "--log") ≡ true
unfolding clap_on_literals
option_passes_here file script = refl

value_passes_here : (file script log : Text) → starts_with_minus log ≡ false → turn_passes run_built [] (waiting_for (codes "log") (log_option file script) 3) log ≡ true
unfolding clap_on_literals
value_passes_here file script log g = plain_value_passes run_built (codes "log") (log_option file script) 3 log g

pub log_walk_passes : (file script log : Text) (rest : List Text) → starts_with_minus log ≡ false
    → walk_passes run_built [] (after_both file script) (codes "--log" ∷ log ∷ rest) ≡ walk_passes run_built [] (after_log file script log) rest
unfolding walk_passes
log_walk_passes file script log rest g =
    ap₂ (λ (b : Bool) (w : Walk). b && (turn_passes run_built [] w log && walk_passes run_built [] (walked run_built.rules [] w log) rest))
    (option_passes_here file script) (option_waits file script)
    ∙ ap₂ (λ (b : Bool) (w : Walk). b && walk_passes run_built [] w rest) (value_passes_here file script log g)
    (plain_value_on run_built (codes "log") (log_option file script) 3 log g)

takes_steps : (program file script log : Text) → takes pfx_app (program ∷ codes "run" ∷ file ∷ script ∷ codes "--log" ∷ log ∷ [])
    ≡ level_passes run_built [] nothing_held (file ∷ script ∷ codes "--log" ∷ log ∷ []) false
unfolding clap_on_literals
takes_steps program file script log = and_true (level_passes run_built [] nothing_held (file ∷ script ∷ codes "--log" ∷ log ∷ []) false)

walks_well : (file : Text) → (step_passes run_built 1 nothing_held value && (step_passes run_built 2 (after_file file).held value && true)) ≡ true
unfolding clap_on_literals
walks_well file = refl

settles_well : (file script log : Text) → settle_passes run_built.rules run_built.args_override_self (after_log file script log).held ≡ true
unfolding clap_on_literals
settles_well file script log = refl

defaults_well : list_all default_passes run_built.rules ≡ true
unfolding clap_on_literals
defaults_well = refl

valid_well : (file script log : Text) → is_valid run_built (finished run_built.rules (after_log file script log).held) false ≡ true
unfolding clap_on_literals
valid_well file script log = refl

pub plain_log_taken : (program file script log : Text) → starts_with_minus file ≡ false → starts_with_minus script ≡ false → starts_with_minus log ≡ false
    → takes pfx_app (program ∷ codes "run" ∷ file ∷ script ∷ codes "--log" ∷ log ∷ []) ≡ true
unfolding walk_passes
plain_log_taken program file script log e f g =
    let rest = codes "--log" ∷ log ∷ [] in
    let passes = run_walk_passes file script rest e f
    ∙ ap (λ (b : Bool). step_passes run_built 1 nothing_held value && (step_passes run_built 2 (after_file file).held value && b)) (log_walk_passes file script log [] g) in
    takes_steps program file script log
    ∙ ap₂ (λ (b : Bool) (w : Walk). ends_well run_built b w.held) passes (run_walk file script rest e f ∙ log_walk file script log [] g)
    ∙ ends_so run_built _ (after_log file script log).held (walks_well file) (settles_well file script log) defaults_well (valid_well file script log)
