-- The words `head LOG` and `head LOG --json`, of any log that doesn't begin with a hyphen.
use Rattle.std.proofs.Common.{◌≡◌, Bool, codes, refl, [], ◌∷◌, List, Some, true, false, ◌∙◌, ap, ap₂, ◌&&◌}
use Rattle.std.specs.Str.Parse.{starts_with_minus}
use Rattle.clap.specs.Walk.{Text, Walk, value, walked, walk_from, nothing_held, rows_after, finished}
use Rattle.clap.specs.Simple.{Shape}
use Rattle.clap.specs.Takes.{takes, walk_passes, level_passes, step_passes}
use Rattle.clap.proofs.OnLiterals.{clap_on_literals}
use Rattle.pfx_program_args.specs.Commands.{pfx_app}
use Rattle.pfx_program_args.specs.Requests.{head, asked, asked_in}
use Rattle.pfx_program_args.proofs.Plain.{sub_built, with_word, on_from, plain_on, plain_passes, ends_well, and_true}

abbrev pub head_built : Shape
head_built = sub_built 11

abbrev pub after_log : Text → Walk
after_log log = with_word head_built 1 nothing_held log

head_walk : (log : Text) → starts_with_minus log ≡ false → on_from head_built (walk_from nothing_held) (log ∷ []) ≡ after_log log
head_walk log e = plain_on head_built nothing_held 1 log [] e

asked_steps : (program log : Text) → asked (program ∷ codes "head" ∷ log ∷ []) ≡ asked_in (Some (codes "head", rows_after head_built.rules [] (log ∷ [])))
unfolding clap_on_literals asked
asked_steps program log = refl

asked_held : (log : Text) → asked_in (Some (codes "head", finished head_built.rules (after_log log).held)) ≡ Some (head log false)
unfolding clap_on_literals
asked_held log = refl

pub plain_head_asked : (program log : Text) → starts_with_minus log ≡ false → asked (program ∷ codes "head" ∷ log ∷ []) ≡ Some (head log false)
plain_head_asked program log e =
    asked_steps program log ∙ ap (λ (w : Walk). asked_in (Some (codes "head", finished head_built.rules w.held))) (head_walk log e) ∙ asked_held log

head_walk_passes : (log : Text) → starts_with_minus log ≡ false → walk_passes head_built [] (walk_from nothing_held) (log ∷ []) ≡ (step_passes head_built 1 nothing_held value && true)
unfolding walk_passes
head_walk_passes log e = plain_passes head_built nothing_held 1 log [] e

takes_steps : (program log : Text) → takes pfx_app (program ∷ codes "head" ∷ log ∷ []) ≡ level_passes head_built [] nothing_held (log ∷ []) false
unfolding clap_on_literals
takes_steps program log = and_true (level_passes head_built [] nothing_held (log ∷ []) false)

well_held : (log : Text) → ends_well head_built (step_passes head_built 1 nothing_held value && true) (after_log log).held ≡ true
unfolding clap_on_literals
well_held log = refl

pub plain_head_taken : (program log : Text) → starts_with_minus log ≡ false → takes pfx_app (program ∷ codes "head" ∷ log ∷ []) ≡ true
plain_head_taken program log e =
    takes_steps program log ∙ ap₂ (λ (b : Bool) (w : Walk). ends_well head_built b w.held) (head_walk_passes log e) (head_walk log e) ∙ well_held log

-- ---- as JSON

abbrev flag : List Text
flag = codes "--json" ∷ []

abbrev json_all : Text → Walk
json_all log = walked head_built.rules [] (after_log log) (codes "--json")

json_walk : (log : Text) → starts_with_minus log ≡ false → on_from head_built (walk_from nothing_held) (log ∷ flag) ≡ on_from head_built (after_log log) flag
json_walk log e = plain_on head_built nothing_held 1 log flag e

json_asked_steps : (program log : Text) → asked (program ∷ codes "head" ∷ log ∷ flag) ≡ asked_in (Some (codes "head", rows_after head_built.rules [] (log ∷ flag)))
unfolding clap_on_literals asked
json_asked_steps program log = refl

json_asked_held : (log : Text) → asked_in (Some (codes "head", finished head_built.rules (json_all log).held)) ≡ Some (head log true)
unfolding clap_on_literals
json_asked_held log = refl

pub json_head_asked : (program log : Text) → starts_with_minus log ≡ false → asked (program ∷ codes "head" ∷ log ∷ codes "--json" ∷ []) ≡ Some (head log true)
json_head_asked program log e =
    json_asked_steps program log ∙ ap (λ (w : Walk). asked_in (Some (codes "head", finished head_built.rules w.held))) (json_walk log e) ∙ json_asked_held log

json_walk_passes : (log : Text) → starts_with_minus log ≡ false
    → walk_passes head_built [] (walk_from nothing_held) (log ∷ flag) ≡ (step_passes head_built 1 nothing_held value && walk_passes head_built [] (after_log log) flag)
json_walk_passes log e = plain_passes head_built nothing_held 1 log flag e

json_takes_steps : (program log : Text) → takes pfx_app (program ∷ codes "head" ∷ log ∷ flag) ≡ level_passes head_built [] nothing_held (log ∷ flag) false
unfolding clap_on_literals
json_takes_steps program log = and_true (level_passes head_built [] nothing_held (log ∷ flag) false)

json_well_held : (log : Text) → ends_well head_built (step_passes head_built 1 nothing_held value && walk_passes head_built [] (after_log log) flag) (json_all log).held ≡ true
unfolding clap_on_literals
json_well_held log = refl

pub json_head_taken : (program log : Text) → starts_with_minus log ≡ false → takes pfx_app (program ∷ codes "head" ∷ log ∷ codes "--json" ∷ []) ≡ true
json_head_taken program log e =
    json_takes_steps program log ∙ ap₂ (λ (b : Bool) (w : Walk). ends_well head_built b w.held) (json_walk_passes log e) (json_walk log e) ∙ json_well_held log
