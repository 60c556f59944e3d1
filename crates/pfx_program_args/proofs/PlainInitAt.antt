-- The words `init SET FILE --at LEDGER`, of words that don't begin with a hyphen.
use Rattle.std.proofs.Common.{◌≡◌, Bool, codes, refl, [], ◌∷◌, Some, true, false, ◌∙◌, ap, ap₂, ◌&&◌, List}
use Rattle.std.specs.List.{list_all}
use Rattle.std.specs.Str.Parse.{starts_with_minus}
use Rattle.clap.specs.Walk.{Text, Held, Walk, value, walked, walk_from, nothing_held, rows_after, finished}
use Rattle.clap.specs.Takes.{takes, walk_passes, turn_passes, level_passes, step_passes, settle_passes, default_passes, is_valid}
use Rattle.clap.proofs.OnLiterals.{clap_on_literals}
use Rattle.pfx_program_args.specs.Commands.{pfx_app}
use Rattle.pfx_program_args.specs.Requests.{init, asked, asked_in}
use Rattle.pfx_program_args.proofs.Plain.{waiting_for, with_value, on_from, plain_on, plain_passes, plain_value_on, plain_value_passes, ends_well, ends_so, and_true}
use Rattle.pfx_program_args.proofs.PlainInit.{init_built, after_set, after_both}

-- the option waits for its value, and then has it
abbrev at_option : Text → Text → Held
at_option set file = (walked init_built.rules [] (after_both set file) (codes "--at")).held

abbrev after_all : Text → Text → Text → Walk
after_all set file at = with_value init_built (codes "at") (at_option set file) 3 at

option_waits : (set file : Text) → walked init_built.rules [] (after_both set file) (codes "--at") ≡ waiting_for (codes "at") (at_option set file) 3
unfolding clap_on_literals
option_waits set file = refl

at_walk : (set file at : Text) → starts_with_minus at ≡ false → on_from init_built (after_both set file) (codes "--at" ∷ at ∷ []) ≡ after_all set file at
at_walk set file at g =
    ap (λ (w : Walk). walked init_built.rules [] w at) (option_waits set file) ∙ plain_value_on init_built (codes "at") (at_option set file) 3 at g

init_walk : (set file : Text) (rest : List Text) → starts_with_minus set ≡ false → starts_with_minus file ≡ false
    → on_from init_built (walk_from nothing_held) (set ∷ file ∷ rest) ≡ on_from init_built (after_both set file) rest
init_walk set file rest e f = plain_on init_built nothing_held 1 set (file ∷ rest) e ∙ plain_on init_built (after_set set).held 2 file rest f

asked_steps : (program set file at : Text) → asked (program ∷ codes "init" ∷ set ∷ file ∷ codes "--at" ∷ at ∷ [])
    ≡ asked_in (Some (codes "init", rows_after init_built.rules [] (set ∷ file ∷ codes "--at" ∷ at ∷ [])))
unfolding clap_on_literals asked
asked_steps program set file at = refl

asked_held : (set file at : Text) → asked_in (Some (codes "init", finished init_built.rules (after_all set file at).held)) ≡ Some (init set file (Some at) false)
unfolding clap_on_literals
asked_held set file at = refl

pub plain_init_at_asked : (program set file at : Text) → starts_with_minus set ≡ false → starts_with_minus file ≡ false → starts_with_minus at ≡ false
    → asked (program ∷ codes "init" ∷ set ∷ file ∷ codes "--at" ∷ at ∷ []) ≡ Some (init set file (Some at) false)
plain_init_at_asked program set file at e f g =
    asked_steps program set file at
    ∙ ap (λ (w : Walk). asked_in (Some (codes "init", finished init_built.rules w.held))) (init_walk set file (codes "--at" ∷ at ∷ []) e f ∙ at_walk set file at g)
    ∙ asked_held set file at

option_passes_here : (set file : Text) → turn_passes init_built [] (after_both set file) (codes "--at") ≡ true
unfolding clap_on_literals
option_passes_here set file = refl

value_passes_here : (set file at : Text) → starts_with_minus at ≡ false → turn_passes init_built [] (waiting_for (codes "at") (at_option set file) 3) at ≡ true
unfolding clap_on_literals
value_passes_here set file at g = plain_value_passes init_built (codes "at") (at_option set file) 3 at g

at_walk_passes : (set file at : Text) → starts_with_minus at ≡ false → walk_passes init_built [] (after_both set file) (codes "--at" ∷ at ∷ []) ≡ true
unfolding walk_passes
at_walk_passes set file at g =
    ap₂ (λ (b : Bool) (w : Walk). b && (turn_passes init_built [] w at && true)) (option_passes_here set file) (option_waits set file)
    ∙ and_true (turn_passes init_built [] (waiting_for (codes "at") (at_option set file) 3) at)
    ∙ value_passes_here set file at g

init_walk_passes : (set file : Text) (rest : List Text) → starts_with_minus set ≡ false → starts_with_minus file ≡ false
    → walk_passes init_built [] (walk_from nothing_held) (set ∷ file ∷ rest)
    ≡ (step_passes init_built 1 nothing_held value && (step_passes init_built 2 (after_set set).held value && walk_passes init_built [] (after_both set file) rest))
init_walk_passes set file rest e f =
    plain_passes init_built nothing_held 1 set (file ∷ rest) e
    ∙ ap (λ (b : Bool). step_passes init_built 1 nothing_held value && b) (plain_passes init_built (after_set set).held 2 file rest f)

takes_steps : (program set file at : Text) → takes pfx_app (program ∷ codes "init" ∷ set ∷ file ∷ codes "--at" ∷ at ∷ [])
    ≡ level_passes init_built [] nothing_held (set ∷ file ∷ codes "--at" ∷ at ∷ []) false
unfolding clap_on_literals
takes_steps program set file at = and_true (level_passes init_built [] nothing_held (set ∷ file ∷ codes "--at" ∷ at ∷ []) false)

walks_well : (set : Text) → (step_passes init_built 1 nothing_held value && (step_passes init_built 2 (after_set set).held value && true)) ≡ true
unfolding clap_on_literals
walks_well set = refl

settles_well : (set file at : Text) → settle_passes init_built.rules init_built.args_override_self (after_all set file at).held ≡ true
unfolding clap_on_literals
settles_well set file at = refl

defaults_well : list_all default_passes init_built.rules ≡ true
unfolding clap_on_literals
defaults_well = refl

valid_well : (set file at : Text) → is_valid init_built (finished init_built.rules (after_all set file at).held) false ≡ true
unfolding clap_on_literals
valid_well set file at = refl

pub plain_init_at_taken : (program set file at : Text) → starts_with_minus set ≡ false → starts_with_minus file ≡ false → starts_with_minus at ≡ false
    → takes pfx_app (program ∷ codes "init" ∷ set ∷ file ∷ codes "--at" ∷ at ∷ []) ≡ true
plain_init_at_taken program set file at e f g =
    let rest = codes "--at" ∷ at ∷ [] in
    let passes = init_walk_passes set file rest e f
    ∙ ap (λ (b : Bool). step_passes init_built 1 nothing_held value && (step_passes init_built 2 (after_set set).held value && b)) (at_walk_passes set file at g) in
    takes_steps program set file at
    ∙ ap₂ (λ (b : Bool) (w : Walk). ends_well init_built b w.held) passes (init_walk set file rest e f ∙ at_walk set file at g)
    ∙ ends_so init_built _ (after_all set file at).held (walks_well set) (settles_well set file at) defaults_well (valid_well set file at)
