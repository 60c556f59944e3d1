-- The words `replay FILE`, of any file that doesn't begin with a hyphen.
use Rattle.std.proofs.Common.{◌≡◌, Bool, codes, refl, [], ◌∷◌, Some, true, false, ◌∙◌, ap, ap₂, ◌&&◌}
use Rattle.std.specs.Str.Parse.{starts_with_minus}
use Rattle.clap.specs.Walk.{Text, Walk, value, walk_from, nothing_held, rows_after, finished}
use Rattle.clap.specs.Simple.{Shape}
use Rattle.clap.specs.Takes.{takes, walk_passes, level_passes, step_passes}
use Rattle.clap.proofs.OnLiterals.{clap_on_literals}
use Rattle.pfx_program_args.specs.Commands.{pfx_app}
use Rattle.pfx_program_args.specs.Requests.{replay, asked, asked_in}
use Rattle.pfx_program_args.proofs.Plain.{sub_built, with_word, on_from, plain_on, plain_passes, ends_well, and_true}

abbrev pub replay_built : Shape
replay_built = sub_built 4

abbrev pub after_file : Text → Walk
after_file file = with_word replay_built 1 nothing_held file

replay_walk : (file : Text) → starts_with_minus file ≡ false → on_from replay_built (walk_from nothing_held) (file ∷ []) ≡ after_file file
replay_walk file e = plain_on replay_built nothing_held 1 file [] e

asked_steps : (program file : Text) → asked (program ∷ codes "replay" ∷ file ∷ []) ≡ asked_in (Some (codes "replay", rows_after replay_built.rules [] (file ∷ [])))
unfolding clap_on_literals asked
asked_steps program file = refl

asked_held : (file : Text) → asked_in (Some (codes "replay", finished replay_built.rules (after_file file).held)) ≡ Some (replay file false)
unfolding clap_on_literals
asked_held file = refl

pub plain_replay_asked : (program file : Text) → starts_with_minus file ≡ false → asked (program ∷ codes "replay" ∷ file ∷ []) ≡ Some (replay file false)
plain_replay_asked program file e =
    asked_steps program file ∙ ap (λ (w : Walk). asked_in (Some (codes "replay", finished replay_built.rules w.held))) (replay_walk file e) ∙ asked_held file

replay_walk_passes : (file : Text) → starts_with_minus file ≡ false → walk_passes replay_built [] (walk_from nothing_held) (file ∷ []) ≡ (step_passes replay_built 1 nothing_held value && true)
unfolding walk_passes
replay_walk_passes file e = plain_passes replay_built nothing_held 1 file [] e

takes_steps : (program file : Text) → takes pfx_app (program ∷ codes "replay" ∷ file ∷ []) ≡ level_passes replay_built [] nothing_held (file ∷ []) false
unfolding clap_on_literals
takes_steps program file = and_true (level_passes replay_built [] nothing_held (file ∷ []) false)

well_held : (file : Text) → ends_well replay_built (step_passes replay_built 1 nothing_held value && true) (after_file file).held ≡ true
unfolding clap_on_literals
well_held file = refl

pub plain_replay_taken : (program file : Text) → starts_with_minus file ≡ false → takes pfx_app (program ∷ codes "replay" ∷ file ∷ []) ≡ true
plain_replay_taken program file e =
    takes_steps program file ∙ ap₂ (λ (b : Bool) (w : Walk). ends_well replay_built b w.held) (replay_walk_passes file e) (replay_walk file e) ∙ well_held file
