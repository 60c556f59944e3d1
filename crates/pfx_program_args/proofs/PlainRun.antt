-- The words `run FILE SCRIPT` and `run FILE SCRIPT --workers N`, of any file and script that don't begin with a hyphen.
use Rattle.std.proofs.Common.{◌≡◌, ℕ, Bool, codes, refl, [], ◌∷◌, Some, None, true, false, pos, ◌∙◌, ap, ap₂, ◌&&◌, arith, List}
use Rattle.std.specs.Prelude.{◌==◌}
use Rattle.std.specs.List.{list_all}
use Rattle.std.specs.Str.Parse.{digits_value, starts_with_minus}
use Rattle.clap.specs.Walk.{Text, Held, Walk, value, walked, walk_from, nothing_held, rows_after, finished}
use Rattle.clap.specs.Lexer.{without_minus}
use Rattle.clap.specs.Simple.{Shape}
use Rattle.clap.specs.Takes.{takes, walk_passes, turn_passes, level_passes, step_passes, settle_passes, default_passes, is_valid}
use Rattle.clap.specs.ValueTests.{is_signed_in}
use Rattle.clap.proofs.OnLiterals.{clap_on_literals}
use Rattle.pfx_program_args.specs.Commands.{pfx_app}
use Rattle.pfx_program_args.specs.Requests.{IsWorkers, run, run_of, number_of, asked, asked_in}
use Rattle.pfx_program_args.proofs.Numbers.{no_sign, number_written, number_passes}
use Rattle.pfx_program_args.proofs.Plain.{sub_built, with_word, waiting_for, with_value, on_from, plain_on, plain_passes, dash, dash_on, dash_passes, plain_value_on, plain_value_passes, ends_well, ends_so, plain_minus, and_true}

abbrev pub run_built : Shape
run_built = sub_built 2

-- the file is held, and then both words
abbrev pub after_file : Text → Walk
after_file file = with_word run_built 1 nothing_held file

abbrev pub after_both : Text → Text → Walk
after_both file script = with_word run_built 2 (after_file file).held script

pub run_walk : (file script : Text) (rest : List Text) → starts_with_minus file ≡ false → starts_with_minus script ≡ false
    → on_from run_built (walk_from nothing_held) (file ∷ script ∷ rest) ≡ on_from run_built (after_both file script) rest
run_walk file script rest e f = plain_on run_built nothing_held 1 file (script ∷ rest) e ∙ plain_on run_built (after_file file).held 2 script rest f

-- both words pass, where the file does
pub run_walk_passes : (file script : Text) (rest : List Text) → starts_with_minus file ≡ false → starts_with_minus script ≡ false
    → walk_passes run_built [] (walk_from nothing_held) (file ∷ script ∷ rest)
    ≡ (step_passes run_built 1 nothing_held value && (step_passes run_built 2 (after_file file).held value && walk_passes run_built [] (after_both file script) rest))
run_walk_passes file script rest e f =
    plain_passes run_built nothing_held 1 file (script ∷ rest) e
    ∙ ap (λ (b : Bool). step_passes run_built 1 nothing_held value && b) (plain_passes run_built (after_file file).held 2 script rest f)

-- ---- without the option

asked_steps : (program file script : Text) → asked (program ∷ codes "run" ∷ file ∷ script ∷ []) ≡ asked_in (Some (codes "run", rows_after run_built.rules [] (file ∷ script ∷ [])))
unfolding clap_on_literals asked
asked_steps program file script = refl

asked_held : (file script : Text) → asked_in (Some (codes "run", finished run_built.rules (after_both file script).held)) ≡ Some (run file script None None None None false false)
unfolding clap_on_literals
asked_held file script = refl

pub plain_run_asked : (program file script : Text) → starts_with_minus file ≡ false → starts_with_minus script ≡ false → asked (program ∷ codes "run" ∷ file ∷ script ∷ []) ≡ Some (run file script None None None None false false)
plain_run_asked program file script e f =
    asked_steps program file script ∙ ap (λ (w : Walk). asked_in (Some (codes "run", finished run_built.rules w.held))) (run_walk file script [] e f) ∙ asked_held file script

takes_steps : (program file script : Text) → takes pfx_app (program ∷ codes "run" ∷ file ∷ script ∷ []) ≡ level_passes run_built [] nothing_held (file ∷ script ∷ []) false
unfolding clap_on_literals
takes_steps program file script = and_true (level_passes run_built [] nothing_held (file ∷ script ∷ []) false)

well_held : (file script : Text)
    → ends_well run_built (step_passes run_built 1 nothing_held value && (step_passes run_built 2 (after_file file).held value && walk_passes run_built [] (after_both file script) []))
    (after_both file script).held ≡ true
unfolding clap_on_literals
well_held file script = refl

pub plain_run_taken : (program file script : Text) → starts_with_minus file ≡ false → starts_with_minus script ≡ false → takes pfx_app (program ∷ codes "run" ∷ file ∷ script ∷ []) ≡ true
plain_run_taken program file script e f =
    takes_steps program file script ∙ ap₂ (λ (b : Bool) (w : Walk). ends_well run_built b w.held) (run_walk_passes file script [] e f) (run_walk file script [] e f) ∙ well_held file script

-- ---- with the script on standard input

dash_walk : (file : Text) → starts_with_minus file ≡ false → on_from run_built (walk_from nothing_held) (file ∷ dash ∷ []) ≡ after_both file dash
dash_walk file e = plain_on run_built nothing_held 1 file (dash ∷ []) e ∙ dash_on run_built (after_file file).held 2 []

pub dash_run_asked : (program file : Text) → starts_with_minus file ≡ false → asked (program ∷ codes "run" ∷ file ∷ dash ∷ []) ≡ Some (run file dash None None None None false false)
dash_run_asked program file e =
    asked_steps program file dash ∙ ap (λ (w : Walk). asked_in (Some (codes "run", finished run_built.rules w.held))) (dash_walk file e) ∙ asked_held file dash

dash_walk_passes : (file : Text) → starts_with_minus file ≡ false
    → walk_passes run_built [] (walk_from nothing_held) (file ∷ dash ∷ [])
    ≡ (step_passes run_built 1 nothing_held value && (step_passes run_built 2 (after_file file).held value && walk_passes run_built [] (after_both file dash) []))
dash_walk_passes file e =
    plain_passes run_built nothing_held 1 file (dash ∷ []) e
    ∙ ap (λ (b : Bool). step_passes run_built 1 nothing_held value && b) (dash_passes run_built (after_file file).held 2 [])

pub dash_run_taken : (program file : Text) → starts_with_minus file ≡ false → takes pfx_app (program ∷ codes "run" ∷ file ∷ dash ∷ []) ≡ true
dash_run_taken program file e =
    takes_steps program file dash ∙ ap₂ (λ (b : Bool) (w : Walk). ends_well run_built b w.held) (dash_walk_passes file e) (dash_walk file e) ∙ well_held file dash

-- ---- with an option

-- the words and the defaults pass
pub walks_well : (file script : Text) → (step_passes run_built 1 nothing_held value && (step_passes run_built 2 (after_file file).held value && true)) ≡ true
unfolding clap_on_literals
walks_well file script = refl

pub defaults_well : list_all default_passes run_built.rules ≡ true
unfolding clap_on_literals
defaults_well = refl

-- the option waits for its value, and then has it
abbrev at_option : Text → Text → Held
at_option file script = (walked run_built.rules [] (after_both file script) (codes "--workers")).held

abbrev after_all : Text → Text → Text → Walk
after_all file script n = with_value run_built (codes "workers") (at_option file script) 3 n

option_waits : (file script : Text) → walked run_built.rules [] (after_both file script) (codes "--workers") ≡ waiting_for (codes "workers") (at_option file script) 3
unfolding clap_on_literals
option_waits file script = refl

workers_walk : (file script n : Text) → starts_with_minus n ≡ false → on_from run_built (after_both file script) (codes "--workers" ∷ n ∷ []) ≡ after_all file script n
workers_walk file script n g =
    ap (λ (w : Walk). walked run_built.rules [] w n) (option_waits file script) ∙ plain_value_on run_built (codes "workers") (at_option file script) 3 n g

all_asked_steps : (program file script n : Text) → asked (program ∷ codes "run" ∷ file ∷ script ∷ codes "--workers" ∷ n ∷ [])
    ≡ asked_in (Some (codes "run", rows_after run_built.rules [] (file ∷ script ∷ codes "--workers" ∷ n ∷ [])))
unfolding clap_on_literals asked
all_asked_steps program file script n = refl

all_asked_held : (file script n : Text) → asked_in (Some (codes "run", finished run_built.rules (after_all file script n).held)) ≡ run_of (Some file) (Some script) (number_of (without_minus n)) None None None false false
unfolding clap_on_literals
all_asked_held file script n = refl

all_asked : (program file script : Text) (d : ℕ) (ds : Text) → starts_with_minus file ≡ false → starts_with_minus script ≡ false → (d == 45) ≡ false
    → asked (program ∷ codes "run" ∷ file ∷ script ∷ codes "--workers" ∷ (d ∷ ds) ∷ []) ≡ run_of (Some file) (Some script) (number_of (d ∷ ds)) None None None false false
all_asked program file script d ds e f g =
    all_asked_steps program file script (d ∷ ds)
    ∙ ap (λ (w : Walk). asked_in (Some (codes "run", finished run_built.rules w.held))) (run_walk file script (codes "--workers" ∷ (d ∷ ds) ∷ []) e f ∙ workers_walk file script (d ∷ ds) g)
    ∙ (all_asked_held file script (d ∷ ds) ∙ ap (λ (t : Text). run_of (Some file) (Some script) (number_of t) None None None false false) (plain_minus d ds g))

pub plain_workers_asked : (program file script n : Text) → starts_with_minus file ≡ false → starts_with_minus script ≡ false → IsWorkers n
    → asked (program ∷ codes "run" ∷ file ∷ script ∷ codes "--workers" ∷ n ∷ []) ≡ Some (run file script (Some (digits_value 10 n)) None None None false false)
plain_workers_asked program file script [] e f h = absurd (omega (arith, h.0.0))
plain_workers_asked program file script (d ∷ ds) e f h =
    all_asked program file script d ds e f (no_sign d ds h.0).0 ∙ ap (λ n. run_of (Some file) (Some script) n None None None false false) (number_written 64 d ds h.0 h.1 (omega arith))

option_passes_here : (file script : Text) → turn_passes run_built [] (after_both file script) (codes "--workers") ≡ true
unfolding clap_on_literals
option_passes_here file script = refl

workers_walk_passes : (file script n : Text) → starts_with_minus n ≡ false → walk_passes run_built [] (after_both file script) (codes "--workers" ∷ n ∷ []) ≡ true
unfolding clap_on_literals
workers_walk_passes file script n g =
    ap₂ (λ (b : Bool) (w : Walk). b && (turn_passes run_built [] w n && true)) (option_passes_here file script) (option_waits file script)
    ∙ and_true (turn_passes run_built [] (waiting_for (codes "workers") (at_option file script) 3) n)
    ∙ plain_value_passes run_built (codes "workers") (at_option file script) 3 n g

all_takes_steps : (program file script n : Text) → takes pfx_app (program ∷ codes "run" ∷ file ∷ script ∷ codes "--workers" ∷ n ∷ [])
    ≡ level_passes run_built [] nothing_held (file ∷ script ∷ codes "--workers" ∷ n ∷ []) false
unfolding clap_on_literals
all_takes_steps program file script n = and_true (level_passes run_built [] nothing_held (file ∷ script ∷ codes "--workers" ∷ n ∷ []) false)

settles_well : (file script n : Text) → is_signed_in (pos 0) (pos 64) n ≡ true → settle_passes run_built.rules run_built.args_override_self (after_all file script n).held ≡ true
unfolding clap_on_literals
settles_well file script n g = rw g refl

valid_well : (file script n : Text) → is_valid run_built (finished run_built.rules (after_all file script n).held) false ≡ true
unfolding clap_on_literals
valid_well file script n = refl

all_well_held : (file script n : Text) → is_signed_in (pos 0) (pos 64) n ≡ true
    → ends_well run_built (step_passes run_built 1 nothing_held value && (step_passes run_built 2 (after_file file).held value && true)) (after_all file script n).held ≡ true
all_well_held file script n g = ends_so run_built _ (after_all file script n).held (walks_well file script) (settles_well file script n g) defaults_well (valid_well file script n)

all_taken : (program file script n : Text) → starts_with_minus file ≡ false → starts_with_minus script ≡ false → starts_with_minus n ≡ false → is_signed_in (pos 0) (pos 64) n ≡ true
    → takes pfx_app (program ∷ codes "run" ∷ file ∷ script ∷ codes "--workers" ∷ n ∷ []) ≡ true
all_taken program file script n e f g i =
    let rest = codes "--workers" ∷ n ∷ [] in
    let passes = run_walk_passes file script rest e f
    ∙ ap (λ (b : Bool). step_passes run_built 1 nothing_held value && (step_passes run_built 2 (after_file file).held value && b)) (workers_walk_passes file script n g) in
    all_takes_steps program file script n
    ∙ ap₂ (λ (b : Bool) (w : Walk). ends_well run_built b w.held) passes (run_walk file script rest e f ∙ workers_walk file script n g)
    ∙ all_well_held file script n i

pub plain_workers_taken : (program file script n : Text) → starts_with_minus file ≡ false → starts_with_minus script ≡ false → IsWorkers n
    → takes pfx_app (program ∷ codes "run" ∷ file ∷ script ∷ codes "--workers" ∷ n ∷ []) ≡ true
plain_workers_taken program file script [] e f h = absurd (omega (arith, h.0.0))
plain_workers_taken program file script (d ∷ ds) e f h = all_taken program file script (d ∷ ds) e f (no_sign d ds h.0).0 (number_passes 0 64 d ds h.0 (omega arith) h.1 (omega arith))
