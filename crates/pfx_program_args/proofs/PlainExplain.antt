-- The words `explain FAULT`, of any fault that doesn't begin with a hyphen.
use Rattle.std.proofs.Common.{◌≡◌, Bool, codes, refl, [], ◌∷◌, Some, true, false, ◌∙◌, ap, ap₂, ◌&&◌}
use Rattle.std.specs.Str.Parse.{starts_with_minus}
use Rattle.clap.specs.Walk.{Text, Walk, value, walk_from, nothing_held, rows_after, finished}
use Rattle.clap.specs.Simple.{Shape}
use Rattle.clap.specs.Takes.{takes, walk_passes, level_passes, step_passes}
use Rattle.clap.proofs.OnLiterals.{clap_on_literals}
use Rattle.pfx_program_args.specs.Commands.{pfx_app}
use Rattle.pfx_program_args.specs.Requests.{explain, asked, asked_in}
use Rattle.pfx_program_args.proofs.Plain.{sub_built, with_word, on_from, plain_on, plain_passes, ends_well, and_true}

abbrev pub explain_built : Shape
explain_built = sub_built 8

abbrev pub after_fault : Text → Walk
after_fault fault = with_word explain_built 1 nothing_held fault

explain_walk : (fault : Text) → starts_with_minus fault ≡ false → on_from explain_built (walk_from nothing_held) (fault ∷ []) ≡ after_fault fault
explain_walk fault e = plain_on explain_built nothing_held 1 fault [] e

asked_steps : (program fault : Text) → asked (program ∷ codes "explain" ∷ fault ∷ []) ≡ asked_in (Some (codes "explain", rows_after explain_built.rules [] (fault ∷ [])))
unfolding clap_on_literals asked
asked_steps program fault = refl

asked_held : (fault : Text) → asked_in (Some (codes "explain", finished explain_built.rules (after_fault fault).held)) ≡ Some (explain fault false)
unfolding clap_on_literals
asked_held fault = refl

pub plain_explain_asked : (program fault : Text) → starts_with_minus fault ≡ false → asked (program ∷ codes "explain" ∷ fault ∷ []) ≡ Some (explain fault false)
plain_explain_asked program fault e =
    asked_steps program fault ∙ ap (λ (w : Walk). asked_in (Some (codes "explain", finished explain_built.rules w.held))) (explain_walk fault e) ∙ asked_held fault

explain_walk_passes : (fault : Text) → starts_with_minus fault ≡ false → walk_passes explain_built [] (walk_from nothing_held) (fault ∷ []) ≡ (step_passes explain_built 1 nothing_held value && true)
unfolding walk_passes
explain_walk_passes fault e = plain_passes explain_built nothing_held 1 fault [] e

takes_steps : (program fault : Text) → takes pfx_app (program ∷ codes "explain" ∷ fault ∷ []) ≡ level_passes explain_built [] nothing_held (fault ∷ []) false
unfolding clap_on_literals
takes_steps program fault = and_true (level_passes explain_built [] nothing_held (fault ∷ []) false)

well_held : (fault : Text) → ends_well explain_built (step_passes explain_built 1 nothing_held value && true) (after_fault fault).held ≡ true
unfolding clap_on_literals
well_held fault = refl

pub plain_explain_taken : (program fault : Text) → starts_with_minus fault ≡ false → takes pfx_app (program ∷ codes "explain" ∷ fault ∷ []) ≡ true
plain_explain_taken program fault e =
    takes_steps program fault ∙ ap₂ (λ (b : Bool) (w : Walk). ends_well explain_built b w.held) (explain_walk_passes fault e) (explain_walk fault e) ∙ well_held fault
