-- The words `check SET`, of any set that doesn't begin with a hyphen.
use Rattle.std.proofs.Common.{◌≡◌, Bool, codes, refl, [], ◌∷◌, Some, true, false, ◌∙◌, ap, ap₂, ◌&&◌}
use Rattle.std.specs.Str.Parse.{starts_with_minus}
use Rattle.clap.specs.Walk.{Text, Walk, value, walk_from, nothing_held, rows_after, finished}
use Rattle.clap.specs.Simple.{Shape}
use Rattle.clap.specs.Takes.{takes, walk_passes, level_passes, step_passes}
use Rattle.clap.proofs.OnLiterals.{clap_on_literals}
use Rattle.pfx_program_args.specs.Commands.{pfx_app}
use Rattle.pfx_program_args.specs.Requests.{check, asked, asked_in}
use Rattle.pfx_program_args.proofs.Plain.{sub_built, with_word, on_from, plain_on, plain_passes, dash, dash_on, dash_passes, ends_well, and_true}

abbrev pub check_built : Shape
check_built = sub_built 7

abbrev pub after_set : Text → Walk
after_set set = with_word check_built 1 nothing_held set

check_walk : (set : Text) → starts_with_minus set ≡ false → on_from check_built (walk_from nothing_held) (set ∷ []) ≡ after_set set
check_walk set e = plain_on check_built nothing_held 1 set [] e

asked_steps : (program set : Text) → asked (program ∷ codes "check" ∷ set ∷ []) ≡ asked_in (Some (codes "check", rows_after check_built.rules [] (set ∷ [])))
unfolding clap_on_literals asked
asked_steps program set = refl

asked_held : (set : Text) → asked_in (Some (codes "check", finished check_built.rules (after_set set).held)) ≡ Some (check set false)
unfolding clap_on_literals
asked_held set = refl

pub plain_check_asked : (program set : Text) → starts_with_minus set ≡ false → asked (program ∷ codes "check" ∷ set ∷ []) ≡ Some (check set false)
plain_check_asked program set e =
    asked_steps program set ∙ ap (λ (w : Walk). asked_in (Some (codes "check", finished check_built.rules w.held))) (check_walk set e) ∙ asked_held set

check_walk_passes : (set : Text) → starts_with_minus set ≡ false → walk_passes check_built [] (walk_from nothing_held) (set ∷ []) ≡ (step_passes check_built 1 nothing_held value && true)
unfolding walk_passes
check_walk_passes set e = plain_passes check_built nothing_held 1 set [] e

takes_steps : (program set : Text) → takes pfx_app (program ∷ codes "check" ∷ set ∷ []) ≡ level_passes check_built [] nothing_held (set ∷ []) false
unfolding clap_on_literals
takes_steps program set = and_true (level_passes check_built [] nothing_held (set ∷ []) false)

well_held : (set : Text) → ends_well check_built (step_passes check_built 1 nothing_held value && true) (after_set set).held ≡ true
unfolding clap_on_literals
well_held set = refl

pub plain_check_taken : (program set : Text) → starts_with_minus set ≡ false → takes pfx_app (program ∷ codes "check" ∷ set ∷ []) ≡ true
plain_check_taken program set e =
    takes_steps program set ∙ ap₂ (λ (b : Bool) (w : Walk). ends_well check_built b w.held) (check_walk_passes set e) (check_walk set e) ∙ well_held set

-- ---- with the set on standard input

dash_walk : on_from check_built (walk_from nothing_held) (dash ∷ []) ≡ after_set dash
dash_walk = dash_on check_built nothing_held 1 []

pub dash_check_asked : (program : Text) → asked (program ∷ codes "check" ∷ dash ∷ []) ≡ Some (check dash false)
dash_check_asked program = asked_steps program dash ∙ ap (λ (w : Walk). asked_in (Some (codes "check", finished check_built.rules w.held))) dash_walk ∙ asked_held dash

dash_walk_passes : walk_passes check_built [] (walk_from nothing_held) (dash ∷ []) ≡ (step_passes check_built 1 nothing_held value && true)
unfolding walk_passes
dash_walk_passes = dash_passes check_built nothing_held 1 []

pub dash_check_taken : (program : Text) → takes pfx_app (program ∷ codes "check" ∷ dash ∷ []) ≡ true
dash_check_taken program =
    takes_steps program dash ∙ ap₂ (λ (b : Bool) (w : Walk). ends_well check_built b w.held) dash_walk_passes dash_walk ∙ well_held dash
