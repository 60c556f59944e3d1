-- The words `run FILE SCRIPT --batch N`, of any file and script that don't begin with a hyphen.
use Rattle.std.proofs.Common.{◌≡◌, ℕ, Bool, codes, refl, [], ◌∷◌, Some, None, true, false, pos, ◌∙◌, ap, ap₂, ◌&&◌, arith}
use Rattle.std.specs.Prelude.{◌==◌}
use Rattle.std.specs.Str.Parse.{digits_value, starts_with_minus}
use Rattle.clap.specs.Walk.{Text, Held, Walk, value, walked, nothing_held, rows_after, finished}
use Rattle.clap.specs.Lexer.{without_minus}
use Rattle.clap.specs.Takes.{takes, walk_passes, turn_passes, level_passes, step_passes, settle_passes, is_valid}
use Rattle.clap.specs.ValueTests.{is_signed_in}
use Rattle.clap.proofs.OnLiterals.{clap_on_literals}
use Rattle.pfx_program_args.specs.Commands.{pfx_app}
use Rattle.pfx_program_args.specs.Requests.{IsBatch, run, run_of, number_of, asked, asked_in}
use Rattle.pfx_program_args.proofs.Numbers.{no_sign, number_written, number_passes}
use Rattle.pfx_program_args.proofs.Plain.{waiting_for, with_value, on_from, plain_value_on, plain_value_passes, ends_well, ends_so, plain_minus, and_true}
use Rattle.pfx_program_args.proofs.PlainRun.{run_built, after_file, after_both, run_walk, run_walk_passes, walks_well, defaults_well}

-- the option waits for its value, and then has it
abbrev at_option : Text → Text → Held
at_option file script = (walked run_built.rules [] (after_both file script) (codes "--batch")).held

abbrev after_all : Text → Text → Text → Walk
after_all file script n = with_value run_built (codes "batch") (at_option file script) 3 n

option_waits : (file script : Text) → walked run_built.rules [] (after_both file script) (codes "--batch") ≡ waiting_for (codes "batch") (at_option file script) 3
unfolding clap_on_literals
option_waits file script = refl

batch_walk : (file script n : Text) → starts_with_minus n ≡ false → on_from run_built (after_both file script) (codes "--batch" ∷ n ∷ []) ≡ after_all file script n
batch_walk file script n g =
    ap (λ (w : Walk). walked run_built.rules [] w n) (option_waits file script) ∙ plain_value_on run_built (codes "batch") (at_option file script) 3 n g

all_asked_steps : (program file script n : Text) → asked (program ∷ codes "run" ∷ file ∷ script ∷ codes "--batch" ∷ n ∷ [])
    ≡ asked_in (Some (codes "run", rows_after run_built.rules [] (file ∷ script ∷ codes "--batch" ∷ n ∷ [])))
unfolding clap_on_literals asked
all_asked_steps program file script n = refl

all_asked_held : (file script n : Text) → asked_in (Some (codes "run", finished run_built.rules (after_all file script n).held)) ≡ run_of (Some file) (Some script) None (number_of (without_minus n)) None None false false
unfolding clap_on_literals
all_asked_held file script n = refl

all_asked : (program file script : Text) (d : ℕ) (ds : Text) → starts_with_minus file ≡ false → starts_with_minus script ≡ false → (d == 45) ≡ false
    → asked (program ∷ codes "run" ∷ file ∷ script ∷ codes "--batch" ∷ (d ∷ ds) ∷ []) ≡ run_of (Some file) (Some script) None (number_of (d ∷ ds)) None None false false
all_asked program file script d ds e f g =
    all_asked_steps program file script (d ∷ ds)
    ∙ ap (λ (w : Walk). asked_in (Some (codes "run", finished run_built.rules w.held))) (run_walk file script (codes "--batch" ∷ (d ∷ ds) ∷ []) e f ∙ batch_walk file script (d ∷ ds) g)
    ∙ (all_asked_held file script (d ∷ ds) ∙ ap (λ (t : Text). run_of (Some file) (Some script) None (number_of t) None None false false) (plain_minus d ds g))

pub plain_batch_asked : (program file script n : Text) → starts_with_minus file ≡ false → starts_with_minus script ≡ false → IsBatch n
    → asked (program ∷ codes "run" ∷ file ∷ script ∷ codes "--batch" ∷ n ∷ []) ≡ Some (run file script None (Some (digits_value 10 n)) None None false false)
plain_batch_asked program file script [] e f h = absurd (omega (arith, h.0.0))
plain_batch_asked program file script (d ∷ ds) e f h =
    all_asked program file script d ds e f (no_sign d ds h.0).0 ∙ ap (λ n. run_of (Some file) (Some script) None n None None false false) (number_written 16 d ds h.0 h.2 (omega arith))

option_passes_here : (file script : Text) → turn_passes run_built [] (after_both file script) (codes "--batch") ≡ true
unfolding clap_on_literals
option_passes_here file script = refl

batch_walk_passes : (file script n : Text) → starts_with_minus n ≡ false → walk_passes run_built [] (after_both file script) (codes "--batch" ∷ n ∷ []) ≡ true
unfolding clap_on_literals
batch_walk_passes file script n g =
    ap₂ (λ (b : Bool) (w : Walk). b && (turn_passes run_built [] w n && true)) (option_passes_here file script) (option_waits file script)
    ∙ and_true (turn_passes run_built [] (waiting_for (codes "batch") (at_option file script) 3) n)
    ∙ plain_value_passes run_built (codes "batch") (at_option file script) 3 n g

all_takes_steps : (program file script n : Text) → takes pfx_app (program ∷ codes "run" ∷ file ∷ script ∷ codes "--batch" ∷ n ∷ [])
    ≡ level_passes run_built [] nothing_held (file ∷ script ∷ codes "--batch" ∷ n ∷ []) false
unfolding clap_on_literals
all_takes_steps program file script n = and_true (level_passes run_built [] nothing_held (file ∷ script ∷ codes "--batch" ∷ n ∷ []) false)

settles_well : (file script n : Text) → is_signed_in (pos 1) (pos 16) n ≡ true → settle_passes run_built.rules run_built.args_override_self (after_all file script n).held ≡ true
unfolding clap_on_literals
settles_well file script n g = rw g refl

valid_well : (file script n : Text) → is_valid run_built (finished run_built.rules (after_all file script n).held) false ≡ true
unfolding clap_on_literals
valid_well file script n = refl

all_well_held : (file script n : Text) → is_signed_in (pos 1) (pos 16) n ≡ true
    → ends_well run_built (step_passes run_built 1 nothing_held value && (step_passes run_built 2 (after_file file).held value && true)) (after_all file script n).held ≡ true
all_well_held file script n g = ends_so run_built _ (after_all file script n).held (walks_well file script) (settles_well file script n g) defaults_well (valid_well file script n)

all_taken : (program file script n : Text) → starts_with_minus file ≡ false → starts_with_minus script ≡ false → starts_with_minus n ≡ false → is_signed_in (pos 1) (pos 16) n ≡ true
    → takes pfx_app (program ∷ codes "run" ∷ file ∷ script ∷ codes "--batch" ∷ n ∷ []) ≡ true
all_taken program file script n e f g i =
    let rest = codes "--batch" ∷ n ∷ [] in
    let passes = run_walk_passes file script rest e f
    ∙ ap (λ (b : Bool). step_passes run_built 1 nothing_held value && (step_passes run_built 2 (after_file file).held value && b)) (batch_walk_passes file script n g) in
    all_takes_steps program file script n
    ∙ ap₂ (λ (b : Bool) (w : Walk). ends_well run_built b w.held) passes (run_walk file script rest e f ∙ batch_walk file script n g)
    ∙ all_well_held file script n i

pub plain_batch_taken : (program file script n : Text) → starts_with_minus file ≡ false → starts_with_minus script ≡ false → IsBatch n
    → takes pfx_app (program ∷ codes "run" ∷ file ∷ script ∷ codes "--batch" ∷ n ∷ []) ≡ true
plain_batch_taken program file script [] e f h = absurd (omega (arith, h.0.0))
plain_batch_taken program file script (d ∷ ds) e f h = all_taken program file script (d ∷ ds) e f (no_sign d ds h.0).0 (number_passes 1 16 d ds h.0 h.1 h.2 (omega arith))
