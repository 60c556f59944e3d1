-- The words `run FILE SCRIPT --strict`, of any file and script that don't begin with a hyphen.
use Rattle.std.proofs.Common.{◌≡◌, Bool, codes, refl, [], ◌∷◌, Some, None, true, false, ◌∙◌, ap, ap₂, ◌&&◌}
use Rattle.std.specs.Str.Parse.{starts_with_minus}
use Rattle.clap.specs.Walk.{Text, Walk, value, walked, nothing_held, rows_after, finished}
use Rattle.clap.specs.Takes.{takes, walk_passes, level_passes, step_passes}
use Rattle.clap.proofs.OnLiterals.{clap_on_literals}
use Rattle.pfx_program_args.specs.Commands.{pfx_app}
use Rattle.pfx_program_args.specs.Requests.{run, asked, asked_in}
use Rattle.pfx_program_args.proofs.Plain.{ends_well, and_true}
use Rattle.pfx_program_args.proofs.PlainRun.{run_built, after_file, after_both, run_walk, run_walk_passes}

-- the flag is held too
abbrev after_all : Text → Text → Walk
after_all file script = walked run_built.rules [] (after_both file script) (codes "--strict")

all_asked_steps : (program file script : Text) → asked (program ∷ codes "run" ∷ file ∷ script ∷ codes "--strict" ∷ [])
    ≡ asked_in (Some (codes "run", rows_after run_built.rules [] (file ∷ script ∷ codes "--strict" ∷ [])))
unfolding clap_on_literals asked
all_asked_steps program file script = refl

all_asked_held : (file script : Text) → asked_in (Some (codes "run", finished run_built.rules (after_all file script).held)) ≡ Some (run file script None None None None true false)
unfolding clap_on_literals
all_asked_held file script = refl

pub plain_strict_asked : (program file script : Text) → starts_with_minus file ≡ false → starts_with_minus script ≡ false
    → asked (program ∷ codes "run" ∷ file ∷ script ∷ codes "--strict" ∷ []) ≡ Some (run file script None None None None true false)
plain_strict_asked program file script e f =
    all_asked_steps program file script
    ∙ ap (λ (w : Walk). asked_in (Some (codes "run", finished run_built.rules w.held))) (run_walk file script (codes "--strict" ∷ []) e f)
    ∙ all_asked_held file script

all_takes_steps : (program file script : Text) → takes pfx_app (program ∷ codes "run" ∷ file ∷ script ∷ codes "--strict" ∷ [])
    ≡ level_passes run_built [] nothing_held (file ∷ script ∷ codes "--strict" ∷ []) false
unfolding clap_on_literals
all_takes_steps program file script = and_true (level_passes run_built [] nothing_held (file ∷ script ∷ codes "--strict" ∷ []) false)

all_well_held : (file script : Text)
    → ends_well run_built (step_passes run_built 1 nothing_held value
    && (step_passes run_built 2 (after_file file).held value && walk_passes run_built [] (after_both file script) (codes "--strict" ∷ []))) (after_all file script).held ≡ true
unfolding clap_on_literals
all_well_held file script = refl

pub plain_strict_taken : (program file script : Text) → starts_with_minus file ≡ false → starts_with_minus script ≡ false
    → takes pfx_app (program ∷ codes "run" ∷ file ∷ script ∷ codes "--strict" ∷ []) ≡ true
plain_strict_taken program file script e f =
    let rest = codes "--strict" ∷ [] in
    all_takes_steps program file script
    ∙ ap₂ (λ (b : Bool) (w : Walk). ends_well run_built b w.held) (run_walk_passes file script rest e f) (run_walk file script rest e f)
    ∙ all_well_held file script
