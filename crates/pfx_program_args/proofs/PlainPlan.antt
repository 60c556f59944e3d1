-- The words `plan SET SLOTS`, of any set that doesn't begin with a hyphen.
use Rattle.std.proofs.Common.{◌≡◌, ℕ, Bool, codes, refl, [], ◌∷◌, Some, None, true, false, pos, ◌∙◌, ap, ap₂, ◌&&◌, arith}
use Rattle.std.specs.Prelude.{◌==◌}
use Rattle.std.specs.Str.Parse.{digits_value, starts_with_minus}
use Rattle.clap.specs.Walk.{Text, Walk, value, walk_from, nothing_held, rows_after, finished}
use Rattle.clap.specs.Simple.{Shape}
use Rattle.clap.specs.Lexer.{without_minus}
use Rattle.clap.specs.Takes.{takes, walk_passes, level_passes, step_passes}
use Rattle.clap.specs.ValueTests.{is_signed_in}
use Rattle.clap.proofs.OnLiterals.{clap_on_literals}
use Rattle.pfx_program_args.specs.Commands.{pfx_app}
use Rattle.pfx_program_args.specs.Requests.{IsSlots, plan, plan_of, number_of, asked, asked_in}
use Rattle.pfx_program_args.proofs.Numbers.{no_sign, number_written, number_passes}
use Rattle.pfx_program_args.proofs.Plain.{sub_built, with_word, on_from, plain_on, plain_passes, dash, dash_on, dash_passes, ends_well, plain_minus, and_true}

abbrev pub plan_built : Shape
plan_built = sub_built 0

-- the set is held, and then both words
abbrev pub after_set : Text → Walk
after_set set = with_word plan_built 1 nothing_held set

abbrev pub after_both : Text → Text → Walk
after_both set slots = with_word plan_built 2 (after_set set).held slots

plan_walk : (set slots : Text) → starts_with_minus set ≡ false → starts_with_minus slots ≡ false → on_from plan_built (walk_from nothing_held) (set ∷ slots ∷ []) ≡ after_both set slots
plan_walk set slots e f = plain_on plan_built nothing_held 1 set (slots ∷ []) e ∙ plain_on plan_built (after_set set).held 2 slots [] f

asked_steps : (program set slots : Text) → asked (program ∷ codes "plan" ∷ set ∷ slots ∷ []) ≡ asked_in (Some (codes "plan", rows_after plan_built.rules [] (set ∷ slots ∷ [])))
unfolding clap_on_literals asked
asked_steps program set slots = refl

asked_held : (set slots : Text) → asked_in (Some (codes "plan", finished plan_built.rules (after_both set slots).held)) ≡ plan_of (Some set) (number_of (without_minus slots)) None false false
unfolding clap_on_literals
asked_held set slots = refl

-- the getter reads the number as it was written
number_held : (set : Text) (d : ℕ) (ds : Text) → (d == 45) ≡ false → asked_in (Some (codes "plan", finished plan_built.rules (after_both set (d ∷ ds)).held)) ≡ plan_of (Some set) (number_of (d ∷ ds)) None false false
number_held set d ds f = asked_held set (d ∷ ds) ∙ ap (λ (t : Text). plan_of (Some set) (number_of t) None false false) (plain_minus d ds f)

asked_plain : (program set : Text) (d : ℕ) (ds : Text) → starts_with_minus set ≡ false → (d == 45) ≡ false → asked (program ∷ codes "plan" ∷ set ∷ (d ∷ ds) ∷ []) ≡ plan_of (Some set) (number_of (d ∷ ds)) None false false
asked_plain program set d ds e f =
    asked_steps program set (d ∷ ds) ∙ ap (λ (w : Walk). asked_in (Some (codes "plan", finished plan_built.rules w.held))) (plan_walk set (d ∷ ds) e f) ∙ number_held set d ds f

-- both words pass, where the set does
plan_walk_passes : (set slots : Text) → starts_with_minus set ≡ false → starts_with_minus slots ≡ false
    → walk_passes plan_built [] (walk_from nothing_held) (set ∷ slots ∷ []) ≡ (step_passes plan_built 1 nothing_held value && (step_passes plan_built 2 (after_set set).held value && true))
unfolding walk_passes
plan_walk_passes set slots e f =
    plain_passes plan_built nothing_held 1 set (slots ∷ []) e
    ∙ ap (λ (b : Bool). step_passes plan_built 1 nothing_held value && b) (plain_passes plan_built (after_set set).held 2 slots [] f)

takes_steps : (program set slots : Text) → takes pfx_app (program ∷ codes "plan" ∷ set ∷ slots ∷ []) ≡ level_passes plan_built [] nothing_held (set ∷ slots ∷ []) false
unfolding clap_on_literals
takes_steps program set slots = and_true (level_passes plan_built [] nothing_held (set ∷ slots ∷ []) false)

well_held : (set slots : Text) → is_signed_in (pos 0) (pos 1048576) slots ≡ true
    → ends_well plan_built (step_passes plan_built 1 nothing_held value && (step_passes plan_built 2 (after_set set).held value && true)) (after_both set slots).held ≡ true
unfolding clap_on_literals
well_held set slots g = rw g refl

takes_plain : (program set slots : Text) → starts_with_minus set ≡ false → starts_with_minus slots ≡ false → is_signed_in (pos 0) (pos 1048576) slots ≡ true
    → takes pfx_app (program ∷ codes "plan" ∷ set ∷ slots ∷ []) ≡ true
takes_plain program set slots e f g =
    takes_steps program set slots ∙ ap₂ (λ (b : Bool) (w : Walk). ends_well plan_built b w.held) (plan_walk_passes set slots e f) (plan_walk set slots e f) ∙ well_held set slots g

pub plain_plan_taken : (program set slots : Text) → starts_with_minus set ≡ false → IsSlots slots → takes pfx_app (program ∷ codes "plan" ∷ set ∷ slots ∷ []) ≡ true
plain_plan_taken program set [] e h = absurd (omega (arith, h.0.0))
plain_plan_taken program set (d ∷ ds) e h = takes_plain program set (d ∷ ds) e (no_sign d ds h.0).0 (number_passes 0 1048576 d ds h.0 (omega arith) h.1 (omega arith))

pub plain_plan_asked : (program set slots : Text) → starts_with_minus set ≡ false → IsSlots slots → asked (program ∷ codes "plan" ∷ set ∷ slots ∷ []) ≡ Some (plan set (digits_value 10 slots) None false false)
plain_plan_asked program set [] e h = absurd (omega (arith, h.0.0))
plain_plan_asked program set (d ∷ ds) e h = asked_plain program set d ds e (no_sign d ds h.0).0 ∙ ap (λ n. plan_of (Some set) n None false false) (number_written 1048576 d ds h.0 h.1 (omega arith))

-- ---- with the set on standard input

dash_walk : (slots : Text) → starts_with_minus slots ≡ false → on_from plan_built (walk_from nothing_held) (dash ∷ slots ∷ []) ≡ after_both dash slots
dash_walk slots f = dash_on plan_built nothing_held 1 (slots ∷ []) ∙ plain_on plan_built (after_set dash).held 2 slots [] f

asked_dash : (program : Text) (d : ℕ) (ds : Text) → (d == 45) ≡ false → asked (program ∷ codes "plan" ∷ dash ∷ (d ∷ ds) ∷ []) ≡ plan_of (Some dash) (number_of (d ∷ ds)) None false false
asked_dash program d ds f =
    asked_steps program dash (d ∷ ds) ∙ ap (λ (w : Walk). asked_in (Some (codes "plan", finished plan_built.rules w.held))) (dash_walk (d ∷ ds) f) ∙ number_held dash d ds f

dash_walk_passes : (slots : Text) → starts_with_minus slots ≡ false
    → walk_passes plan_built [] (walk_from nothing_held) (dash ∷ slots ∷ []) ≡ (step_passes plan_built 1 nothing_held value && (step_passes plan_built 2 (after_set dash).held value && true))
unfolding walk_passes
dash_walk_passes slots f =
    dash_passes plan_built nothing_held 1 (slots ∷ [])
    ∙ ap (λ (b : Bool). step_passes plan_built 1 nothing_held value && b) (plain_passes plan_built (after_set dash).held 2 slots [] f)

takes_dash : (program slots : Text) → starts_with_minus slots ≡ false → is_signed_in (pos 0) (pos 1048576) slots ≡ true → takes pfx_app (program ∷ codes "plan" ∷ dash ∷ slots ∷ []) ≡ true
takes_dash program slots f g =
    takes_steps program dash slots ∙ ap₂ (λ (b : Bool) (w : Walk). ends_well plan_built b w.held) (dash_walk_passes slots f) (dash_walk slots f) ∙ well_held dash slots g

pub dash_plan_taken : (program slots : Text) → IsSlots slots → takes pfx_app (program ∷ codes "plan" ∷ dash ∷ slots ∷ []) ≡ true
dash_plan_taken program [] h = absurd (omega (arith, h.0.0))
dash_plan_taken program (d ∷ ds) h = takes_dash program (d ∷ ds) (no_sign d ds h.0).0 (number_passes 0 1048576 d ds h.0 (omega arith) h.1 (omega arith))

pub dash_plan_asked : (program slots : Text) → IsSlots slots → asked (program ∷ codes "plan" ∷ dash ∷ slots ∷ []) ≡ Some (plan dash (digits_value 10 slots) None false false)
dash_plan_asked program [] h = absurd (omega (arith, h.0.0))
dash_plan_asked program (d ∷ ds) h = asked_dash program d ds (no_sign d ds h.0).0 ∙ ap (λ n. plan_of (Some dash) n None false false) (number_written 1048576 d ds h.0 h.1 (omega arith))
