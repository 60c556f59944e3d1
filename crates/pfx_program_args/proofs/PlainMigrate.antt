-- The words `migrate OLD NEW` and `migrate OLD NEW --json`, of any files that don't begin with a hyphen.
use Rattle.std.proofs.Common.{◌≡◌, Bool, codes, refl, [], ◌∷◌, Some, true, false, ◌∙◌, ap, ap₂, ◌&&◌, List}
use Rattle.std.specs.Str.Parse.{starts_with_minus}
use Rattle.clap.specs.Walk.{Text, Walk, value, walked, walk_from, nothing_held, rows_after, finished}
use Rattle.clap.specs.Simple.{Shape}
use Rattle.clap.specs.Takes.{takes, walk_passes, level_passes, step_passes}
use Rattle.clap.proofs.OnLiterals.{clap_on_literals}
use Rattle.pfx_program_args.specs.Commands.{pfx_app}
use Rattle.pfx_program_args.specs.Requests.{migrate, asked, asked_in}
use Rattle.pfx_program_args.proofs.Plain.{sub_built, with_word, on_from, plain_on, plain_passes, ends_well, and_true}

abbrev pub migrate_built : Shape
migrate_built = sub_built 9

-- the old file is held, and then both words
abbrev pub after_old : Text → Walk
after_old old = with_word migrate_built 1 nothing_held old

abbrev pub after_both : Text → Text → Walk
after_both old new = with_word migrate_built 2 (after_old old).held new

migrate_walk : (old new : Text) → starts_with_minus old ≡ false → starts_with_minus new ≡ false → on_from migrate_built (walk_from nothing_held) (old ∷ new ∷ []) ≡ after_both old new
migrate_walk old new e f = plain_on migrate_built nothing_held 1 old (new ∷ []) e ∙ plain_on migrate_built (after_old old).held 2 new [] f

asked_steps : (program old new : Text) → asked (program ∷ codes "migrate" ∷ old ∷ new ∷ []) ≡ asked_in (Some (codes "migrate", rows_after migrate_built.rules [] (old ∷ new ∷ [])))
unfolding clap_on_literals asked
asked_steps program old new = refl

asked_held : (old new : Text) → asked_in (Some (codes "migrate", finished migrate_built.rules (after_both old new).held)) ≡ Some (migrate old new false)
unfolding clap_on_literals
asked_held old new = refl

pub plain_migrate_asked : (program old new : Text) → starts_with_minus old ≡ false → starts_with_minus new ≡ false → asked (program ∷ codes "migrate" ∷ old ∷ new ∷ []) ≡ Some (migrate old new false)
plain_migrate_asked program old new e f =
    asked_steps program old new ∙ ap (λ (w : Walk). asked_in (Some (codes "migrate", finished migrate_built.rules w.held))) (migrate_walk old new e f) ∙ asked_held old new

-- both words pass, where the first does
migrate_walk_passes : (old new : Text) → starts_with_minus old ≡ false → starts_with_minus new ≡ false
    → walk_passes migrate_built [] (walk_from nothing_held) (old ∷ new ∷ []) ≡ (step_passes migrate_built 1 nothing_held value && (step_passes migrate_built 2 (after_old old).held value && true))
unfolding walk_passes
migrate_walk_passes old new e f =
    plain_passes migrate_built nothing_held 1 old (new ∷ []) e
    ∙ ap (λ (b : Bool). step_passes migrate_built 1 nothing_held value && b) (plain_passes migrate_built (after_old old).held 2 new [] f)

takes_steps : (program old new : Text) → takes pfx_app (program ∷ codes "migrate" ∷ old ∷ new ∷ []) ≡ level_passes migrate_built [] nothing_held (old ∷ new ∷ []) false
unfolding clap_on_literals
takes_steps program old new = and_true (level_passes migrate_built [] nothing_held (old ∷ new ∷ []) false)

well_held : (old new : Text)
    → ends_well migrate_built (step_passes migrate_built 1 nothing_held value && (step_passes migrate_built 2 (after_old old).held value && true)) (after_both old new).held ≡ true
unfolding clap_on_literals
well_held old new = refl

pub plain_migrate_taken : (program old new : Text) → starts_with_minus old ≡ false → starts_with_minus new ≡ false → takes pfx_app (program ∷ codes "migrate" ∷ old ∷ new ∷ []) ≡ true
plain_migrate_taken program old new e f =
    takes_steps program old new ∙ ap₂ (λ (b : Bool) (w : Walk). ends_well migrate_built b w.held) (migrate_walk_passes old new e f) (migrate_walk old new e f) ∙ well_held old new

-- ---- with the flag

abbrev flag : List Text
flag = codes "--json" ∷ []

abbrev flag_all : Text → Text → Walk
flag_all old new = walked migrate_built.rules [] (after_both old new) (codes "--json")

flag_walk : (old new : Text) → starts_with_minus old ≡ false → starts_with_minus new ≡ false
    → on_from migrate_built (walk_from nothing_held) (old ∷ new ∷ flag) ≡ on_from migrate_built (after_both old new) flag
flag_walk old new e f = plain_on migrate_built nothing_held 1 old (new ∷ flag) e ∙ plain_on migrate_built (after_old old).held 2 new flag f

flag_asked_steps : (program old new : Text) → asked (program ∷ codes "migrate" ∷ old ∷ new ∷ flag) ≡ asked_in (Some (codes "migrate", rows_after migrate_built.rules [] (old ∷ new ∷ flag)))
unfolding clap_on_literals asked
flag_asked_steps program old new = refl

flag_asked_held : (old new : Text) → asked_in (Some (codes "migrate", finished migrate_built.rules (flag_all old new).held)) ≡ Some (migrate old new true)
unfolding clap_on_literals
flag_asked_held old new = refl

pub json_migrate_asked : (program old new : Text) → starts_with_minus old ≡ false → starts_with_minus new ≡ false
    → asked (program ∷ codes "migrate" ∷ old ∷ new ∷ codes "--json" ∷ []) ≡ Some (migrate old new true)
json_migrate_asked program old new e f =
    flag_asked_steps program old new ∙ ap (λ (w : Walk). asked_in (Some (codes "migrate", finished migrate_built.rules w.held))) (flag_walk old new e f) ∙ flag_asked_held old new

flag_walk_passes : (old new : Text) → starts_with_minus old ≡ false → starts_with_minus new ≡ false
    → walk_passes migrate_built [] (walk_from nothing_held) (old ∷ new ∷ flag)
    ≡ (step_passes migrate_built 1 nothing_held value && (step_passes migrate_built 2 (after_old old).held value && walk_passes migrate_built [] (after_both old new) flag))
flag_walk_passes old new e f =
    plain_passes migrate_built nothing_held 1 old (new ∷ flag) e
    ∙ ap (λ (b : Bool). step_passes migrate_built 1 nothing_held value && b) (plain_passes migrate_built (after_old old).held 2 new flag f)

flag_takes_steps : (program old new : Text) → takes pfx_app (program ∷ codes "migrate" ∷ old ∷ new ∷ flag) ≡ level_passes migrate_built [] nothing_held (old ∷ new ∷ flag) false
unfolding clap_on_literals
flag_takes_steps program old new = and_true (level_passes migrate_built [] nothing_held (old ∷ new ∷ flag) false)

flag_well_held : (old new : Text)
    → ends_well migrate_built (step_passes migrate_built 1 nothing_held value
    && (step_passes migrate_built 2 (after_old old).held value && walk_passes migrate_built [] (after_both old new) flag)) (flag_all old new).held ≡ true
unfolding clap_on_literals
flag_well_held old new = refl

pub json_migrate_taken : (program old new : Text) → starts_with_minus old ≡ false → starts_with_minus new ≡ false → takes pfx_app (program ∷ codes "migrate" ∷ old ∷ new ∷ codes "--json" ∷ []) ≡ true
json_migrate_taken program old new e f =
    flag_takes_steps program old new
    ∙ ap₂ (λ (b : Bool) (w : Walk). ends_well migrate_built b w.held) (flag_walk_passes old new e f) (flag_walk old new e f)
    ∙ flag_well_held old new
