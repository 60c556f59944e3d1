-- The words `audit LOG FILE --every N`, of any log and file that don't begin with a hyphen.
use Rattle.std.proofs.Common.{◌≡◌, ℕ, Bool, codes, refl, [], ◌∷◌, Some, None, true, false, pos, ◌∙◌, ap, ap₂, ◌&&◌, arith}
use Rattle.std.specs.Prelude.{◌==◌}
use Rattle.std.specs.List.{list_all}
use Rattle.std.specs.Str.Parse.{digits_value, starts_with_minus}
use Rattle.clap.specs.Walk.{Text, Held, Walk, value, walked, nothing_held, rows_after, finished}
use Rattle.clap.specs.Lexer.{without_minus}
use Rattle.clap.specs.Takes.{takes, walk_passes, turn_passes, level_passes, step_passes, settle_passes, default_passes, is_valid}
use Rattle.clap.specs.ValueTests.{is_signed_in}
use Rattle.clap.proofs.OnLiterals.{clap_on_literals}
use Rattle.pfx_program_args.specs.declared.request.AuditForm.TheVariants as form
use Rattle.pfx_program_args.specs.Commands.{pfx_app}
use Rattle.pfx_program_args.specs.Requests.{IsWindow, audit, audit_of, number_of, asked, asked_in}
use Rattle.pfx_program_args.proofs.Numbers.{no_sign, number_written, number_passes}
use Rattle.pfx_program_args.proofs.Plain.{waiting_for, with_value, on_from, plain_value_on, plain_value_passes, ends_well, ends_so, plain_minus, and_true}
use Rattle.pfx_program_args.proofs.PlainAudit.{audit_built, after_log, after_both, both_walk, both_walk_passes}

-- the option waits for its value, and then has it
abbrev at_option : Text → Text → Held
at_option log file = (walked audit_built.rules [] (after_both log file) (codes "--every")).held

abbrev after_all : Text → Text → Text → Walk
after_all log file n = with_value audit_built (codes "every") (at_option log file) 1 n

option_waits : (log file : Text) → walked audit_built.rules [] (after_both log file) (codes "--every") ≡ waiting_for (codes "every") (at_option log file) 1
unfolding clap_on_literals
option_waits log file = refl

every_walk : (log file n : Text) → starts_with_minus n ≡ false → on_from audit_built (after_both log file) (codes "--every" ∷ n ∷ []) ≡ after_all log file n
every_walk log file n g =
    ap (λ (w : Walk). walked audit_built.rules [] w n) (option_waits log file) ∙ plain_value_on audit_built (codes "every") (at_option log file) 1 n g

all_asked_steps : (program log file n : Text) → asked (program ∷ codes "audit" ∷ log ∷ file ∷ codes "--every" ∷ n ∷ [])
    ≡ asked_in (Some (codes "audit", rows_after audit_built.rules [] (log ∷ file ∷ codes "--every" ∷ n ∷ [])))
unfolding clap_on_literals asked
all_asked_steps program log file n = refl

all_asked_held : (log file n : Text)
    → asked_in (Some (codes "audit", finished audit_built.rules (after_all log file n).held)) ≡ audit_of (Some (log ∷ file ∷ [])) (number_of (without_minus n)) None None None form.Text
unfolding clap_on_literals
all_asked_held log file n = refl

all_asked : (program log file : Text) (d : ℕ) (ds : Text) → starts_with_minus log ≡ false → starts_with_minus file ≡ false → (d == 45) ≡ false
    → asked (program ∷ codes "audit" ∷ log ∷ file ∷ codes "--every" ∷ (d ∷ ds) ∷ []) ≡ audit_of (Some (log ∷ file ∷ [])) (number_of (d ∷ ds)) None None None form.Text
all_asked program log file d ds e f g =
    all_asked_steps program log file (d ∷ ds)
    ∙ ap (λ (w : Walk). asked_in (Some (codes "audit", finished audit_built.rules w.held))) (both_walk log file (codes "--every" ∷ (d ∷ ds) ∷ []) e f ∙ every_walk log file (d ∷ ds) g)
    ∙ (all_asked_held log file (d ∷ ds) ∙ ap (λ (t : Text). audit_of (Some (log ∷ file ∷ [])) (number_of t) None None None form.Text) (plain_minus d ds g))

pub plain_every_asked : (program log file n : Text) → starts_with_minus log ≡ false → starts_with_minus file ≡ false → IsWindow n
    → asked (program ∷ codes "audit" ∷ log ∷ file ∷ codes "--every" ∷ n ∷ []) ≡ Some (audit (log ∷ file ∷ []) (Some (digits_value 10 n)) None None None form.Text)
plain_every_asked program log file [] e f h = absurd (omega (arith, h.0.0))
plain_every_asked program log file (d ∷ ds) e f h =
    all_asked program log file d ds e f (no_sign d ds h.0).0
    ∙ ap (λ n. audit_of (Some (log ∷ file ∷ [])) n None None None form.Text) (number_written 1048576 d ds h.0 h.2 (omega arith))

option_passes_here : (log file : Text) → turn_passes audit_built [] (after_both log file) (codes "--every") ≡ true
unfolding clap_on_literals
option_passes_here log file = refl

every_walk_passes : (log file n : Text) → starts_with_minus n ≡ false → walk_passes audit_built [] (after_both log file) (codes "--every" ∷ n ∷ []) ≡ true
unfolding clap_on_literals
every_walk_passes log file n g =
    ap₂ (λ (b : Bool) (w : Walk). b && (turn_passes audit_built [] w n && true)) (option_passes_here log file) (option_waits log file)
    ∙ and_true (turn_passes audit_built [] (waiting_for (codes "every") (at_option log file) 1) n)
    ∙ plain_value_passes audit_built (codes "every") (at_option log file) 1 n g

all_takes_steps : (program log file n : Text) → takes pfx_app (program ∷ codes "audit" ∷ log ∷ file ∷ codes "--every" ∷ n ∷ [])
    ≡ level_passes audit_built [] nothing_held (log ∷ file ∷ codes "--every" ∷ n ∷ []) false
unfolding clap_on_literals
all_takes_steps program log file n = and_true (level_passes audit_built [] nothing_held (log ∷ file ∷ codes "--every" ∷ n ∷ []) false)

walks_well : (log file : Text) → (step_passes audit_built 1 nothing_held value && (step_passes audit_built 1 (after_log log).held value && true)) ≡ true
unfolding clap_on_literals
walks_well log file = refl

defaults_well : list_all default_passes audit_built.rules ≡ true
unfolding clap_on_literals
defaults_well = refl

settles_well : (log file n : Text) → is_signed_in (pos 1) (pos 1048576) n ≡ true → settle_passes audit_built.rules audit_built.args_override_self (after_all log file n).held ≡ true
unfolding clap_on_literals
settles_well log file n g = rw g refl

valid_well : (log file n : Text) → is_valid audit_built (finished audit_built.rules (after_all log file n).held) false ≡ true
unfolding clap_on_literals
valid_well log file n = refl

all_taken : (program log file n : Text) → starts_with_minus log ≡ false → starts_with_minus file ≡ false → starts_with_minus n ≡ false → is_signed_in (pos 1) (pos 1048576) n ≡ true
    → takes pfx_app (program ∷ codes "audit" ∷ log ∷ file ∷ codes "--every" ∷ n ∷ []) ≡ true
all_taken program log file n e f g i =
    let rest = codes "--every" ∷ n ∷ [] in
    let passes = both_walk_passes log file rest e f
    ∙ ap (λ (b : Bool). step_passes audit_built 1 nothing_held value && (step_passes audit_built 1 (after_log log).held value && b)) (every_walk_passes log file n g) in
    let ends = ends_so audit_built _ (after_all log file n).held (walks_well log file) (settles_well log file n i) defaults_well (valid_well log file n) in
    all_takes_steps program log file n
    ∙ ap₂ (λ (b : Bool) (w : Walk). ends_well audit_built b w.held) passes (both_walk log file rest e f ∙ every_walk log file n g)
    ∙ ends

pub plain_every_taken : (program log file n : Text) → starts_with_minus log ≡ false → starts_with_minus file ≡ false → IsWindow n
    → takes pfx_app (program ∷ codes "audit" ∷ log ∷ file ∷ codes "--every" ∷ n ∷ []) ≡ true
plain_every_taken program log file [] e f h = absurd (omega (arith, h.0.0))
plain_every_taken program log file (d ∷ ds) e f h =
    all_taken program log file (d ∷ ds) e f (no_sign d ds h.0).0 (number_passes 1 1048576 d ds h.0 h.1 h.2 (omega arith))
