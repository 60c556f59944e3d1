-- The words `plan SET SLOTS --ledger`, of any set that doesn't begin with a hyphen.
use Rattle.std.proofs.Common.{◌≡◌, ℕ, Bool, codes, refl, [], ◌∷◌, Some, None, true, false, pos, ◌∙◌, ap, ap₂, ◌&&◌, arith, List}
use Rattle.std.specs.Prelude.{◌==◌}
use Rattle.std.specs.List.{list_all}
use Rattle.std.specs.Str.Parse.{digits_value, starts_with_minus}
use Rattle.clap.specs.Walk.{Text, Walk, value, walked, walk_from, nothing_held, rows_after, finished}
use Rattle.clap.specs.Lexer.{without_minus}
use Rattle.clap.specs.Takes.{takes, walk_passes, level_passes, step_passes, settle_passes, default_passes, is_valid}
use Rattle.clap.specs.ValueTests.{is_signed_in}
use Rattle.clap.proofs.OnLiterals.{clap_on_literals}
use Rattle.pfx_program_args.specs.Commands.{pfx_app}
use Rattle.pfx_program_args.specs.Requests.{IsSlots, plan, plan_of, number_of, asked, asked_in}
use Rattle.pfx_program_args.proofs.Numbers.{no_sign, number_written, number_passes}
use Rattle.pfx_program_args.proofs.Plain.{on_from, plain_on, plain_passes, ends_well, ends_so, plain_minus, and_true}
use Rattle.pfx_program_args.proofs.PlainPlan.{plan_built, after_set, after_both}

abbrev flag : List Text
flag = codes "--ledger" ∷ []

-- the flag is held too
abbrev ledger_all : Text → Text → Walk
ledger_all set slots = walked plan_built.rules [] (after_both set slots) (codes "--ledger")

ledger_walk : (set slots : Text) → starts_with_minus set ≡ false → starts_with_minus slots ≡ false
    → on_from plan_built (walk_from nothing_held) (set ∷ slots ∷ flag) ≡ on_from plan_built (after_both set slots) flag
ledger_walk set slots e f = plain_on plan_built nothing_held 1 set (slots ∷ flag) e ∙ plain_on plan_built (after_set set).held 2 slots flag f

ledger_asked_steps : (program set slots : Text) → asked (program ∷ codes "plan" ∷ set ∷ slots ∷ flag) ≡ asked_in (Some (codes "plan", rows_after plan_built.rules [] (set ∷ slots ∷ flag)))
unfolding clap_on_literals asked
ledger_asked_steps program set slots = refl

ledger_asked_held : (set slots : Text) → asked_in (Some (codes "plan", finished plan_built.rules (ledger_all set slots).held)) ≡ plan_of (Some set) (number_of (without_minus slots)) None true false
unfolding clap_on_literals
ledger_asked_held set slots = refl

ledger_asked : (program set : Text) (d : ℕ) (ds : Text) → starts_with_minus set ≡ false → (d == 45) ≡ false
    → asked (program ∷ codes "plan" ∷ set ∷ (d ∷ ds) ∷ flag) ≡ plan_of (Some set) (number_of (d ∷ ds)) None true false
ledger_asked program set d ds e f =
    ledger_asked_steps program set (d ∷ ds) ∙ ap (λ (w : Walk). asked_in (Some (codes "plan", finished plan_built.rules w.held))) (ledger_walk set (d ∷ ds) e f)
    ∙ (ledger_asked_held set (d ∷ ds) ∙ ap (λ (t : Text). plan_of (Some set) (number_of t) None true false) (plain_minus d ds f))

pub plain_ledger_asked : (program set slots : Text) → starts_with_minus set ≡ false → IsSlots slots
    → asked (program ∷ codes "plan" ∷ set ∷ slots ∷ codes "--ledger" ∷ []) ≡ Some (plan set (digits_value 10 slots) None true false)
plain_ledger_asked program set [] e h = absurd (omega (arith, h.0.0))
plain_ledger_asked program set (d ∷ ds) e h = ledger_asked program set d ds e (no_sign d ds h.0).0 ∙ ap (λ n. plan_of (Some set) n None true false) (number_written 1048576 d ds h.0 h.1 (omega arith))

ledger_walk_passes : (set slots : Text) → starts_with_minus set ≡ false → starts_with_minus slots ≡ false
    → walk_passes plan_built [] (walk_from nothing_held) (set ∷ slots ∷ flag)
    ≡ (step_passes plan_built 1 nothing_held value && (step_passes plan_built 2 (after_set set).held value && walk_passes plan_built [] (after_both set slots) flag))
ledger_walk_passes set slots e f =
    plain_passes plan_built nothing_held 1 set (slots ∷ flag) e
    ∙ ap (λ (b : Bool). step_passes plan_built 1 nothing_held value && b) (plain_passes plan_built (after_set set).held 2 slots flag f)

ledger_takes_steps : (program set slots : Text) → takes pfx_app (program ∷ codes "plan" ∷ set ∷ slots ∷ flag) ≡ level_passes plan_built [] nothing_held (set ∷ slots ∷ flag) false
unfolding clap_on_literals
ledger_takes_steps program set slots = and_true (level_passes plan_built [] nothing_held (set ∷ slots ∷ flag) false)

-- the number is looked at if the flag follows
ledger_walks_well : (set slots : Text) → is_signed_in (pos 0) (pos 1048576) slots ≡ true
    → (step_passes plan_built 1 nothing_held value && (step_passes plan_built 2 (after_set set).held value && walk_passes plan_built [] (after_both set slots) flag)) ≡ true
unfolding clap_on_literals
ledger_walks_well set slots g = rw g refl

ledger_settles_well : (set slots : Text) → settle_passes plan_built.rules plan_built.args_override_self (ledger_all set slots).held ≡ true
unfolding clap_on_literals
ledger_settles_well set slots = refl

ledger_defaults_well : list_all default_passes plan_built.rules ≡ true
unfolding clap_on_literals
ledger_defaults_well = refl

ledger_valid_well : (set slots : Text) → is_valid plan_built (finished plan_built.rules (ledger_all set slots).held) false ≡ true
unfolding clap_on_literals
ledger_valid_well set slots = refl

ledger_well_held : (set slots : Text) → is_signed_in (pos 0) (pos 1048576) slots ≡ true
    → ends_well plan_built (step_passes plan_built 1 nothing_held value && (step_passes plan_built 2 (after_set set).held value && walk_passes plan_built [] (after_both set slots) flag))
    (ledger_all set slots).held ≡ true
ledger_well_held set slots g =
    ends_so plan_built _ (ledger_all set slots).held (ledger_walks_well set slots g) (ledger_settles_well set slots) ledger_defaults_well (ledger_valid_well set slots)

ledger_taken : (program set slots : Text) → starts_with_minus set ≡ false → starts_with_minus slots ≡ false → is_signed_in (pos 0) (pos 1048576) slots ≡ true
    → takes pfx_app (program ∷ codes "plan" ∷ set ∷ slots ∷ flag) ≡ true
ledger_taken program set slots e f g =
    ledger_takes_steps program set slots ∙ ap₂ (λ (b : Bool) (w : Walk). ends_well plan_built b w.held) (ledger_walk_passes set slots e f) (ledger_walk set slots e f) ∙ ledger_well_held set slots g

pub plain_ledger_taken : (program set slots : Text) → starts_with_minus set ≡ false → IsSlots slots → takes pfx_app (program ∷ codes "plan" ∷ set ∷ slots ∷ codes "--ledger" ∷ []) ≡ true
plain_ledger_taken program set [] e h = absurd (omega (arith, h.0.0))
plain_ledger_taken program set (d ∷ ds) e h = ledger_taken program set (d ∷ ds) e (no_sign d ds h.0).0 (number_passes 0 1048576 d ds h.0 (omega arith) h.1 (omega arith))
