-- The words `show FILE` and `show FILE TASK`, of any file that doesn't begin with a hyphen.
use Rattle.std.proofs.Common.{◌≡◌, ℕ, Bool, codes, refl, [], ◌∷◌, Some, None, true, false, pos, ◌∙◌, ap, ap₂, ◌&&◌, arith}
use Rattle.std.specs.Prelude.{◌==◌}
use Rattle.std.specs.Str.Parse.{digits_value, starts_with_minus}
use Rattle.clap.specs.Walk.{Text, Walk, value, walk_from, nothing_held, rows_after, finished}
use Rattle.clap.specs.Simple.{Shape}
use Rattle.clap.specs.Takes.{takes, walk_passes, level_passes, step_passes}
use Rattle.clap.specs.ValueTests.{is_signed_in}
use Rattle.clap.proofs.OnLiterals.{clap_on_literals}
use Rattle.pfx_program_args.specs.Commands.{pfx_app}
use Rattle.pfx_program_args.specs.Requests.{IsTask, show, show_of, number_of, asked, asked_in}
use Rattle.pfx_program_args.proofs.Numbers.{no_sign, number_written, number_passes}
use Rattle.pfx_program_args.proofs.Plain.{sub_built, with_word, on_from, plain_on, plain_passes, ends_well, and_true}

abbrev pub show_built : Shape
show_built = sub_built 5

abbrev pub after_file : Text → Walk
after_file file = with_word show_built 1 nothing_held file

-- ---- of all tasks

show_walk : (file : Text) → starts_with_minus file ≡ false → on_from show_built (walk_from nothing_held) (file ∷ []) ≡ after_file file
show_walk file e = plain_on show_built nothing_held 1 file [] e

asked_steps : (program file : Text) → asked (program ∷ codes "show" ∷ file ∷ []) ≡ asked_in (Some (codes "show", rows_after show_built.rules [] (file ∷ [])))
unfolding clap_on_literals asked
asked_steps program file = refl

asked_held : (file : Text) → asked_in (Some (codes "show", finished show_built.rules (after_file file).held)) ≡ Some (show file None false)
unfolding clap_on_literals
asked_held file = refl

pub plain_show_asked : (program file : Text) → starts_with_minus file ≡ false → asked (program ∷ codes "show" ∷ file ∷ []) ≡ Some (show file None false)
plain_show_asked program file e =
    asked_steps program file ∙ ap (λ (w : Walk). asked_in (Some (codes "show", finished show_built.rules w.held))) (show_walk file e) ∙ asked_held file

show_walk_passes : (file : Text) → starts_with_minus file ≡ false → walk_passes show_built [] (walk_from nothing_held) (file ∷ []) ≡ (step_passes show_built 1 nothing_held value && true)
unfolding walk_passes
show_walk_passes file e = plain_passes show_built nothing_held 1 file [] e

takes_steps : (program file : Text) → takes pfx_app (program ∷ codes "show" ∷ file ∷ []) ≡ level_passes show_built [] nothing_held (file ∷ []) false
unfolding clap_on_literals
takes_steps program file = and_true (level_passes show_built [] nothing_held (file ∷ []) false)

well_held : (file : Text) → ends_well show_built (step_passes show_built 1 nothing_held value && true) (after_file file).held ≡ true
unfolding clap_on_literals
well_held file = refl

pub plain_show_taken : (program file : Text) → starts_with_minus file ≡ false → takes pfx_app (program ∷ codes "show" ∷ file ∷ []) ≡ true
plain_show_taken program file e =
    takes_steps program file ∙ ap₂ (λ (b : Bool) (w : Walk). ends_well show_built b w.held) (show_walk_passes file e) (show_walk file e) ∙ well_held file

-- ---- of one

abbrev after_both : Text → Text → Walk
after_both file task = with_word show_built 2 (after_file file).held task

task_walk : (file task : Text) → starts_with_minus file ≡ false → starts_with_minus task ≡ false → on_from show_built (walk_from nothing_held) (file ∷ task ∷ []) ≡ after_both file task
task_walk file task e f = plain_on show_built nothing_held 1 file (task ∷ []) e ∙ plain_on show_built (after_file file).held 2 task [] f

task_steps : (program file task : Text) → asked (program ∷ codes "show" ∷ file ∷ task ∷ []) ≡ asked_in (Some (codes "show", rows_after show_built.rules [] (file ∷ task ∷ [])))
unfolding clap_on_literals asked
task_steps program file task = refl

task_held : (file : Text) (d : ℕ) (ds : Text) → (d == 45) ≡ false → asked_in (Some (codes "show", finished show_built.rules (after_both file (d ∷ ds)).held)) ≡ show_of (Some file) (number_of (d ∷ ds)) false
unfolding clap_on_literals
task_held file d ds f = rw f refl

asked_task : (program file : Text) (d : ℕ) (ds : Text) → starts_with_minus file ≡ false → (d == 45) ≡ false → asked (program ∷ codes "show" ∷ file ∷ (d ∷ ds) ∷ []) ≡ show_of (Some file) (number_of (d ∷ ds)) false
asked_task program file d ds e f =
    task_steps program file (d ∷ ds) ∙ ap (λ (w : Walk). asked_in (Some (codes "show", finished show_built.rules w.held))) (task_walk file (d ∷ ds) e f) ∙ task_held file d ds f

task_walk_passes : (file task : Text) → starts_with_minus file ≡ false → starts_with_minus task ≡ false
    → walk_passes show_built [] (walk_from nothing_held) (file ∷ task ∷ []) ≡ (step_passes show_built 1 nothing_held value && (step_passes show_built 2 (after_file file).held value && true))
unfolding walk_passes
task_walk_passes file task e f =
    plain_passes show_built nothing_held 1 file (task ∷ []) e
    ∙ ap (λ (b : Bool). step_passes show_built 1 nothing_held value && b) (plain_passes show_built (after_file file).held 2 task [] f)

task_takes_steps : (program file task : Text) → takes pfx_app (program ∷ codes "show" ∷ file ∷ task ∷ []) ≡ level_passes show_built [] nothing_held (file ∷ task ∷ []) false
unfolding clap_on_literals
task_takes_steps program file task = and_true (level_passes show_built [] nothing_held (file ∷ task ∷ []) false)

task_well_held : (file task : Text) → is_signed_in (pos 0) (pos 65535) task ≡ true
    → ends_well show_built (step_passes show_built 1 nothing_held value && (step_passes show_built 2 (after_file file).held value && true)) (after_both file task).held ≡ true
unfolding clap_on_literals
task_well_held file task g = rw g refl

takes_task : (program file task : Text) → starts_with_minus file ≡ false → starts_with_minus task ≡ false → is_signed_in (pos 0) (pos 65535) task ≡ true
    → takes pfx_app (program ∷ codes "show" ∷ file ∷ task ∷ []) ≡ true
takes_task program file task e f g =
    task_takes_steps program file task ∙ ap₂ (λ (b : Bool) (w : Walk). ends_well show_built b w.held) (task_walk_passes file task e f) (task_walk file task e f) ∙ task_well_held file task g

pub plain_show_task_taken : (program file task : Text) → starts_with_minus file ≡ false → IsTask task → takes pfx_app (program ∷ codes "show" ∷ file ∷ task ∷ []) ≡ true
plain_show_task_taken program file [] e h = absurd (omega (arith, h.0.0))
plain_show_task_taken program file (d ∷ ds) e h = takes_task program file (d ∷ ds) e (no_sign d ds h.0).0 (number_passes 0 65535 d ds h.0 (omega arith) h.1 (omega arith))

pub plain_show_task_asked : (program file task : Text) → starts_with_minus file ≡ false → IsTask task → asked (program ∷ codes "show" ∷ file ∷ task ∷ []) ≡ Some (show file (Some (digits_value 10 task)) false)
plain_show_task_asked program file [] e h = absurd (omega (arith, h.0.0))
plain_show_task_asked program file (d ∷ ds) e h = asked_task program file d ds e (no_sign d ds h.0).0 ∙ ap (λ n. show_of (Some file) n false) (number_written 65535 d ds h.0 h.1 (omega arith))
