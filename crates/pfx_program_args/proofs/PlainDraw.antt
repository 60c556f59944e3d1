-- The words `draw SET SLOTS`, of any set that doesn't begin with a hyphen.
use Rattle.std.proofs.Common.{◌≡◌, ℕ, Bool, codes, refl, [], ◌∷◌, Some, None, true, false, pos, ◌∙◌, ap, ap₂, ◌&&◌, arith}
use Rattle.std.specs.Prelude.{◌==◌}
use Rattle.std.specs.Str.Parse.{digits_value, starts_with_minus}
use Rattle.clap.specs.Walk.{Text, Walk, value, walk_from, nothing_held, rows_after, finished}
use Rattle.clap.specs.Simple.{Shape}
use Rattle.clap.specs.Takes.{takes, walk_passes, level_passes, step_passes}
use Rattle.clap.specs.ValueTests.{is_signed_in}
use Rattle.clap.proofs.OnLiterals.{clap_on_literals}
use Rattle.pfx_program_args.specs.Commands.{pfx_app}
use Rattle.pfx_program_args.specs.Requests.{IsDrawnSlots, draw, draw_of, number_of, asked, asked_in}
use Rattle.pfx_program_args.proofs.Numbers.{no_sign, number_written, number_passes}
use Rattle.pfx_program_args.proofs.Plain.{sub_built, with_word, on_from, plain_on, plain_passes, dash, dash_on, dash_passes, ends_well, and_true}

abbrev draw_built : Shape
draw_built = sub_built 6

-- the set is held, and then both words
abbrev after_set : Text → Walk
after_set set = with_word draw_built 1 nothing_held set

abbrev after_both : Text → Text → Walk
after_both set slots = with_word draw_built 2 (after_set set).held slots

draw_walk : (set slots : Text) → starts_with_minus set ≡ false → starts_with_minus slots ≡ false → on_from draw_built (walk_from nothing_held) (set ∷ slots ∷ []) ≡ after_both set slots
draw_walk set slots e f = plain_on draw_built nothing_held 1 set (slots ∷ []) e ∙ plain_on draw_built (after_set set).held 2 slots [] f

asked_steps : (program set slots : Text) → asked (program ∷ codes "draw" ∷ set ∷ slots ∷ []) ≡ asked_in (Some (codes "draw", rows_after draw_built.rules [] (set ∷ slots ∷ [])))
unfolding clap_on_literals asked
asked_steps program set slots = refl

asked_held : (set : Text) (d : ℕ) (ds : Text) → (d == 45) ≡ false → asked_in (Some (codes "draw", finished draw_built.rules (after_both set (d ∷ ds)).held)) ≡ draw_of (Some set) (number_of (d ∷ ds)) None
unfolding clap_on_literals
asked_held set d ds f = rw f refl

asked_plain : (program set : Text) (d : ℕ) (ds : Text) → starts_with_minus set ≡ false → (d == 45) ≡ false → asked (program ∷ codes "draw" ∷ set ∷ (d ∷ ds) ∷ []) ≡ draw_of (Some set) (number_of (d ∷ ds)) None
asked_plain program set d ds e f =
    asked_steps program set (d ∷ ds) ∙ ap (λ (w : Walk). asked_in (Some (codes "draw", finished draw_built.rules w.held))) (draw_walk set (d ∷ ds) e f) ∙ asked_held set d ds f

-- both words pass, where the set does
draw_walk_passes : (set slots : Text) → starts_with_minus set ≡ false → starts_with_minus slots ≡ false
    → walk_passes draw_built [] (walk_from nothing_held) (set ∷ slots ∷ []) ≡ (step_passes draw_built 1 nothing_held value && (step_passes draw_built 2 (after_set set).held value && true))
unfolding walk_passes
draw_walk_passes set slots e f =
    plain_passes draw_built nothing_held 1 set (slots ∷ []) e
    ∙ ap (λ (b : Bool). step_passes draw_built 1 nothing_held value && b) (plain_passes draw_built (after_set set).held 2 slots [] f)

takes_steps : (program set slots : Text) → takes pfx_app (program ∷ codes "draw" ∷ set ∷ slots ∷ []) ≡ level_passes draw_built [] nothing_held (set ∷ slots ∷ []) false
unfolding clap_on_literals
takes_steps program set slots = and_true (level_passes draw_built [] nothing_held (set ∷ slots ∷ []) false)

well_held : (set slots : Text) → is_signed_in (pos 1) (pos 1440) slots ≡ true
    → ends_well draw_built (step_passes draw_built 1 nothing_held value && (step_passes draw_built 2 (after_set set).held value && true)) (after_both set slots).held ≡ true
unfolding clap_on_literals
well_held set slots g = rw g refl

takes_plain : (program set slots : Text) → starts_with_minus set ≡ false → starts_with_minus slots ≡ false → is_signed_in (pos 1) (pos 1440) slots ≡ true
    → takes pfx_app (program ∷ codes "draw" ∷ set ∷ slots ∷ []) ≡ true
takes_plain program set slots e f g =
    takes_steps program set slots ∙ ap₂ (λ (b : Bool) (w : Walk). ends_well draw_built b w.held) (draw_walk_passes set slots e f) (draw_walk set slots e f) ∙ well_held set slots g

pub plain_draw_taken : (program set slots : Text) → starts_with_minus set ≡ false → IsDrawnSlots slots → takes pfx_app (program ∷ codes "draw" ∷ set ∷ slots ∷ []) ≡ true
plain_draw_taken program set [] e h = absurd (omega (arith, h.0.0))
plain_draw_taken program set (d ∷ ds) e h = takes_plain program set (d ∷ ds) e (no_sign d ds h.0).0 (number_passes 1 1440 d ds h.0 h.1 h.2 (omega arith))

pub plain_draw_asked : (program set slots : Text) → starts_with_minus set ≡ false → IsDrawnSlots slots → asked (program ∷ codes "draw" ∷ set ∷ slots ∷ []) ≡ Some (draw set (digits_value 10 slots) None)
plain_draw_asked program set [] e h = absurd (omega (arith, h.0.0))
plain_draw_asked program set (d ∷ ds) e h = asked_plain program set d ds e (no_sign d ds h.0).0 ∙ ap (λ n. draw_of (Some set) n None) (number_written 1440 d ds h.0 h.2 (omega arith))

-- ---- with the set on standard input

dash_walk : (slots : Text) → starts_with_minus slots ≡ false → on_from draw_built (walk_from nothing_held) (dash ∷ slots ∷ []) ≡ after_both dash slots
dash_walk slots f = dash_on draw_built nothing_held 1 (slots ∷ []) ∙ plain_on draw_built (after_set dash).held 2 slots [] f

asked_dash : (program : Text) (d : ℕ) (ds : Text) → (d == 45) ≡ false → asked (program ∷ codes "draw" ∷ dash ∷ (d ∷ ds) ∷ []) ≡ draw_of (Some dash) (number_of (d ∷ ds)) None
asked_dash program d ds f =
    asked_steps program dash (d ∷ ds) ∙ ap (λ (w : Walk). asked_in (Some (codes "draw", finished draw_built.rules w.held))) (dash_walk (d ∷ ds) f) ∙ asked_held dash d ds f

dash_walk_passes : (slots : Text) → starts_with_minus slots ≡ false
    → walk_passes draw_built [] (walk_from nothing_held) (dash ∷ slots ∷ []) ≡ (step_passes draw_built 1 nothing_held value && (step_passes draw_built 2 (after_set dash).held value && true))
unfolding walk_passes
dash_walk_passes slots f =
    dash_passes draw_built nothing_held 1 (slots ∷ [])
    ∙ ap (λ (b : Bool). step_passes draw_built 1 nothing_held value && b) (plain_passes draw_built (after_set dash).held 2 slots [] f)

takes_dash : (program slots : Text) → starts_with_minus slots ≡ false → is_signed_in (pos 1) (pos 1440) slots ≡ true → takes pfx_app (program ∷ codes "draw" ∷ dash ∷ slots ∷ []) ≡ true
takes_dash program slots f g =
    takes_steps program dash slots ∙ ap₂ (λ (b : Bool) (w : Walk). ends_well draw_built b w.held) (dash_walk_passes slots f) (dash_walk slots f) ∙ well_held dash slots g

pub dash_draw_taken : (program slots : Text) → IsDrawnSlots slots → takes pfx_app (program ∷ codes "draw" ∷ dash ∷ slots ∷ []) ≡ true
dash_draw_taken program [] h = absurd (omega (arith, h.0.0))
dash_draw_taken program (d ∷ ds) h = takes_dash program (d ∷ ds) (no_sign d ds h.0).0 (number_passes 1 1440 d ds h.0 h.1 h.2 (omega arith))

pub dash_draw_asked : (program slots : Text) → IsDrawnSlots slots → asked (program ∷ codes "draw" ∷ dash ∷ slots ∷ []) ≡ Some (draw dash (digits_value 10 slots) None)
dash_draw_asked program [] h = absurd (omega (arith, h.0.0))
dash_draw_asked program (d ∷ ds) h = asked_dash program d ds (no_sign d ds h.0).0 ∙ ap (λ n. draw_of (Some dash) n None) (number_written 1440 d ds h.0 h.2 (omega arith))
