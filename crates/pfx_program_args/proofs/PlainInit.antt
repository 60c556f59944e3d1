-- The words `init SET FILE`, of any set and file that don't begin with a hyphen.
use Rattle.std.proofs.Common.{◌≡◌, Bool, codes, refl, [], ◌∷◌, Some, None, true, false, ◌∙◌, ap, ap₂, ◌&&◌}
use Rattle.std.specs.Str.Parse.{starts_with_minus}
use Rattle.clap.specs.Walk.{Text, Walk, value, walk_from, nothing_held, rows_after, finished}
use Rattle.clap.specs.Simple.{Shape}
use Rattle.clap.specs.Takes.{takes, walk_passes, level_passes, step_passes}
use Rattle.clap.proofs.OnLiterals.{clap_on_literals}
use Rattle.pfx_program_args.specs.Commands.{pfx_app}
use Rattle.pfx_program_args.specs.Requests.{init, asked, asked_in}
use Rattle.pfx_program_args.proofs.Plain.{sub_built, with_word, on_from, plain_on, plain_passes, dash, dash_on, dash_passes, ends_well, and_true}

abbrev pub init_built : Shape
init_built = sub_built 1

-- the set is held, and then both words
abbrev pub after_set : Text → Walk
after_set set = with_word init_built 1 nothing_held set

abbrev pub after_both : Text → Text → Walk
after_both set file = with_word init_built 2 (after_set set).held file

init_walk : (set file : Text) → starts_with_minus set ≡ false → starts_with_minus file ≡ false → on_from init_built (walk_from nothing_held) (set ∷ file ∷ []) ≡ after_both set file
init_walk set file e f = plain_on init_built nothing_held 1 set (file ∷ []) e ∙ plain_on init_built (after_set set).held 2 file [] f

asked_steps : (program set file : Text) → asked (program ∷ codes "init" ∷ set ∷ file ∷ []) ≡ asked_in (Some (codes "init", rows_after init_built.rules [] (set ∷ file ∷ [])))
unfolding clap_on_literals asked
asked_steps program set file = refl

asked_held : (set file : Text) → asked_in (Some (codes "init", finished init_built.rules (after_both set file).held)) ≡ Some (init set file None false)
unfolding clap_on_literals
asked_held set file = refl

pub plain_init_asked : (program set file : Text) → starts_with_minus set ≡ false → starts_with_minus file ≡ false → asked (program ∷ codes "init" ∷ set ∷ file ∷ []) ≡ Some (init set file None false)
plain_init_asked program set file e f =
    asked_steps program set file ∙ ap (λ (w : Walk). asked_in (Some (codes "init", finished init_built.rules w.held))) (init_walk set file e f) ∙ asked_held set file

-- both words pass, where the set does
init_walk_passes : (set file : Text) → starts_with_minus set ≡ false → starts_with_minus file ≡ false
    → walk_passes init_built [] (walk_from nothing_held) (set ∷ file ∷ []) ≡ (step_passes init_built 1 nothing_held value && (step_passes init_built 2 (after_set set).held value && true))
unfolding walk_passes
init_walk_passes set file e f =
    plain_passes init_built nothing_held 1 set (file ∷ []) e
    ∙ ap (λ (b : Bool). step_passes init_built 1 nothing_held value && b) (plain_passes init_built (after_set set).held 2 file [] f)

takes_steps : (program set file : Text) → takes pfx_app (program ∷ codes "init" ∷ set ∷ file ∷ []) ≡ level_passes init_built [] nothing_held (set ∷ file ∷ []) false
unfolding clap_on_literals
takes_steps program set file = and_true (level_passes init_built [] nothing_held (set ∷ file ∷ []) false)

well_held : (set file : Text)
    → ends_well init_built (step_passes init_built 1 nothing_held value && (step_passes init_built 2 (after_set set).held value && true)) (after_both set file).held ≡ true
unfolding clap_on_literals
well_held set file = refl

pub plain_init_taken : (program set file : Text) → starts_with_minus set ≡ false → starts_with_minus file ≡ false → takes pfx_app (program ∷ codes "init" ∷ set ∷ file ∷ []) ≡ true
plain_init_taken program set file e f =
    takes_steps program set file ∙ ap₂ (λ (b : Bool) (w : Walk). ends_well init_built b w.held) (init_walk_passes set file e f) (init_walk set file e f) ∙ well_held set file

-- ---- with the set on standard input

dash_walk : (file : Text) → starts_with_minus file ≡ false → on_from init_built (walk_from nothing_held) (dash ∷ file ∷ []) ≡ after_both dash file
dash_walk file f = dash_on init_built nothing_held 1 (file ∷ []) ∙ plain_on init_built (after_set dash).held 2 file [] f

pub dash_init_asked : (program file : Text) → starts_with_minus file ≡ false → asked (program ∷ codes "init" ∷ dash ∷ file ∷ []) ≡ Some (init dash file None false)
dash_init_asked program file f =
    asked_steps program dash file ∙ ap (λ (w : Walk). asked_in (Some (codes "init", finished init_built.rules w.held))) (dash_walk file f) ∙ asked_held dash file

dash_walk_passes : (file : Text) → starts_with_minus file ≡ false
    → walk_passes init_built [] (walk_from nothing_held) (dash ∷ file ∷ []) ≡ (step_passes init_built 1 nothing_held value && (step_passes init_built 2 (after_set dash).held value && true))
unfolding walk_passes
dash_walk_passes file f =
    dash_passes init_built nothing_held 1 (file ∷ [])
    ∙ ap (λ (b : Bool). step_passes init_built 1 nothing_held value && b) (plain_passes init_built (after_set dash).held 2 file [] f)

pub dash_init_taken : (program file : Text) → starts_with_minus file ≡ false → takes pfx_app (program ∷ codes "init" ∷ dash ∷ file ∷ []) ≡ true
dash_init_taken program file f =
    takes_steps program dash file ∙ ap₂ (λ (b : Bool) (w : Walk). ends_well init_built b w.held) (dash_walk_passes file f) (dash_walk file f) ∙ well_held dash file
