-- The words `init SET FILE --json`, `replay FILE --json`, `check SET --json` and `explain FAULT --json`, of words that don't begin with a hyphen.
use Rattle.std.proofs.Common.{◌≡◌, Bool, codes, refl, [], ◌∷◌, Some, None, true, false, ◌∙◌, ap, ap₂, ◌&&◌, List}
use Rattle.std.specs.Str.Parse.{starts_with_minus}
use Rattle.clap.specs.Walk.{Text, Walk, value, walked, walk_from, nothing_held, rows_after, finished}
use Rattle.clap.specs.Takes.{takes, walk_passes, level_passes, step_passes}
use Rattle.clap.proofs.OnLiterals.{clap_on_literals}
use Rattle.pfx_program_args.specs.Commands.{pfx_app}
use Rattle.pfx_program_args.specs.Requests.{init, replay, check, explain, asked, asked_in}
use Rattle.pfx_program_args.proofs.Plain.{on_from, plain_on, plain_passes, ends_well, and_true}
use Rattle.pfx_program_args.proofs.PlainInit as of_init
use Rattle.pfx_program_args.proofs.PlainInit.{init_built}
use Rattle.pfx_program_args.proofs.PlainReplay as of_replay
use Rattle.pfx_program_args.proofs.PlainReplay.{replay_built}
use Rattle.pfx_program_args.proofs.PlainCheck as of_check
use Rattle.pfx_program_args.proofs.PlainCheck.{check_built}
use Rattle.pfx_program_args.proofs.PlainExplain as of_explain
use Rattle.pfx_program_args.proofs.PlainExplain.{explain_built}

abbrev flag : List Text
flag = codes "--json" ∷ []

-- ---- init

abbrev init_all : Text → Text → Walk
init_all set file = walked init_built.rules [] (of_init.after_both set file) (codes "--json")

init_walk : (set file : Text) → starts_with_minus set ≡ false → starts_with_minus file ≡ false
    → on_from init_built (walk_from nothing_held) (set ∷ file ∷ flag) ≡ on_from init_built (of_init.after_both set file) flag
init_walk set file e f = plain_on init_built nothing_held 1 set (file ∷ flag) e ∙ plain_on init_built (of_init.after_set set).held 2 file flag f

init_asked_steps : (program set file : Text) → asked (program ∷ codes "init" ∷ set ∷ file ∷ flag) ≡ asked_in (Some (codes "init", rows_after init_built.rules [] (set ∷ file ∷ flag)))
unfolding clap_on_literals asked
init_asked_steps program set file = refl

init_asked_held : (set file : Text) → asked_in (Some (codes "init", finished init_built.rules (init_all set file).held)) ≡ Some (init set file None true)
unfolding clap_on_literals
init_asked_held set file = refl

pub json_init_asked : (program set file : Text) → starts_with_minus set ≡ false → starts_with_minus file ≡ false
    → asked (program ∷ codes "init" ∷ set ∷ file ∷ codes "--json" ∷ []) ≡ Some (init set file None true)
json_init_asked program set file e f =
    init_asked_steps program set file ∙ ap (λ (w : Walk). asked_in (Some (codes "init", finished init_built.rules w.held))) (init_walk set file e f) ∙ init_asked_held set file

init_walk_passes : (set file : Text) → starts_with_minus set ≡ false → starts_with_minus file ≡ false
    → walk_passes init_built [] (walk_from nothing_held) (set ∷ file ∷ flag)
    ≡ (step_passes init_built 1 nothing_held value && (step_passes init_built 2 (of_init.after_set set).held value && walk_passes init_built [] (of_init.after_both set file) flag))
init_walk_passes set file e f =
    plain_passes init_built nothing_held 1 set (file ∷ flag) e
    ∙ ap (λ (b : Bool). step_passes init_built 1 nothing_held value && b) (plain_passes init_built (of_init.after_set set).held 2 file flag f)

init_takes_steps : (program set file : Text) → takes pfx_app (program ∷ codes "init" ∷ set ∷ file ∷ flag) ≡ level_passes init_built [] nothing_held (set ∷ file ∷ flag) false
unfolding clap_on_literals
init_takes_steps program set file = and_true (level_passes init_built [] nothing_held (set ∷ file ∷ flag) false)

init_well_held : (set file : Text)
    → ends_well init_built (step_passes init_built 1 nothing_held value
    && (step_passes init_built 2 (of_init.after_set set).held value && walk_passes init_built [] (of_init.after_both set file) flag)) (init_all set file).held ≡ true
unfolding clap_on_literals
init_well_held set file = refl

pub json_init_taken : (program set file : Text) → starts_with_minus set ≡ false → starts_with_minus file ≡ false → takes pfx_app (program ∷ codes "init" ∷ set ∷ file ∷ codes "--json" ∷ []) ≡ true
json_init_taken program set file e f =
    init_takes_steps program set file
    ∙ ap₂ (λ (b : Bool) (w : Walk). ends_well init_built b w.held) (init_walk_passes set file e f) (init_walk set file e f)
    ∙ init_well_held set file

-- ---- replay

abbrev replay_all : Text → Walk
replay_all file = walked replay_built.rules [] (of_replay.after_file file) (codes "--json")

replay_walk : (file : Text) → starts_with_minus file ≡ false → on_from replay_built (walk_from nothing_held) (file ∷ flag) ≡ on_from replay_built (of_replay.after_file file) flag
replay_walk file e = plain_on replay_built nothing_held 1 file flag e

replay_asked_steps : (program file : Text) → asked (program ∷ codes "replay" ∷ file ∷ flag) ≡ asked_in (Some (codes "replay", rows_after replay_built.rules [] (file ∷ flag)))
unfolding clap_on_literals asked
replay_asked_steps program file = refl

replay_asked_held : (file : Text) → asked_in (Some (codes "replay", finished replay_built.rules (replay_all file).held)) ≡ Some (replay file true)
unfolding clap_on_literals
replay_asked_held file = refl

pub json_replay_asked : (program file : Text) → starts_with_minus file ≡ false → asked (program ∷ codes "replay" ∷ file ∷ codes "--json" ∷ []) ≡ Some (replay file true)
json_replay_asked program file e =
    replay_asked_steps program file ∙ ap (λ (w : Walk). asked_in (Some (codes "replay", finished replay_built.rules w.held))) (replay_walk file e) ∙ replay_asked_held file

replay_walk_passes : (file : Text) → starts_with_minus file ≡ false
    → walk_passes replay_built [] (walk_from nothing_held) (file ∷ flag) ≡ (step_passes replay_built 1 nothing_held value && walk_passes replay_built [] (of_replay.after_file file) flag)
replay_walk_passes file e = plain_passes replay_built nothing_held 1 file flag e

replay_takes_steps : (program file : Text) → takes pfx_app (program ∷ codes "replay" ∷ file ∷ flag) ≡ level_passes replay_built [] nothing_held (file ∷ flag) false
unfolding clap_on_literals
replay_takes_steps program file = and_true (level_passes replay_built [] nothing_held (file ∷ flag) false)

replay_well_held : (file : Text) → ends_well replay_built (step_passes replay_built 1 nothing_held value && walk_passes replay_built [] (of_replay.after_file file) flag) (replay_all file).held ≡ true
unfolding clap_on_literals
replay_well_held file = refl

pub json_replay_taken : (program file : Text) → starts_with_minus file ≡ false → takes pfx_app (program ∷ codes "replay" ∷ file ∷ codes "--json" ∷ []) ≡ true
json_replay_taken program file e =
    replay_takes_steps program file ∙ ap₂ (λ (b : Bool) (w : Walk). ends_well replay_built b w.held) (replay_walk_passes file e) (replay_walk file e) ∙ replay_well_held file

-- ---- check

abbrev check_all : Text → Walk
check_all set = walked check_built.rules [] (of_check.after_set set) (codes "--json")

check_walk : (set : Text) → starts_with_minus set ≡ false → on_from check_built (walk_from nothing_held) (set ∷ flag) ≡ on_from check_built (of_check.after_set set) flag
check_walk set e = plain_on check_built nothing_held 1 set flag e

check_asked_steps : (program set : Text) → asked (program ∷ codes "check" ∷ set ∷ flag) ≡ asked_in (Some (codes "check", rows_after check_built.rules [] (set ∷ flag)))
unfolding clap_on_literals asked
check_asked_steps program set = refl

check_asked_held : (set : Text) → asked_in (Some (codes "check", finished check_built.rules (check_all set).held)) ≡ Some (check set true)
unfolding clap_on_literals
check_asked_held set = refl

pub json_check_asked : (program set : Text) → starts_with_minus set ≡ false → asked (program ∷ codes "check" ∷ set ∷ codes "--json" ∷ []) ≡ Some (check set true)
json_check_asked program set e =
    check_asked_steps program set ∙ ap (λ (w : Walk). asked_in (Some (codes "check", finished check_built.rules w.held))) (check_walk set e) ∙ check_asked_held set

check_walk_passes : (set : Text) → starts_with_minus set ≡ false
    → walk_passes check_built [] (walk_from nothing_held) (set ∷ flag) ≡ (step_passes check_built 1 nothing_held value && walk_passes check_built [] (of_check.after_set set) flag)
check_walk_passes set e = plain_passes check_built nothing_held 1 set flag e

check_takes_steps : (program set : Text) → takes pfx_app (program ∷ codes "check" ∷ set ∷ flag) ≡ level_passes check_built [] nothing_held (set ∷ flag) false
unfolding clap_on_literals
check_takes_steps program set = and_true (level_passes check_built [] nothing_held (set ∷ flag) false)

check_well_held : (set : Text) → ends_well check_built (step_passes check_built 1 nothing_held value && walk_passes check_built [] (of_check.after_set set) flag) (check_all set).held ≡ true
unfolding clap_on_literals
check_well_held set = refl

pub json_check_taken : (program set : Text) → starts_with_minus set ≡ false → takes pfx_app (program ∷ codes "check" ∷ set ∷ codes "--json" ∷ []) ≡ true
json_check_taken program set e =
    check_takes_steps program set ∙ ap₂ (λ (b : Bool) (w : Walk). ends_well check_built b w.held) (check_walk_passes set e) (check_walk set e) ∙ check_well_held set

-- ---- explain

abbrev explain_all : Text → Walk
explain_all fault = walked explain_built.rules [] (of_explain.after_fault fault) (codes "--json")

explain_walk : (fault : Text) → starts_with_minus fault ≡ false → on_from explain_built (walk_from nothing_held) (fault ∷ flag) ≡ on_from explain_built (of_explain.after_fault fault) flag
explain_walk fault e = plain_on explain_built nothing_held 1 fault flag e

explain_asked_steps : (program fault : Text) → asked (program ∷ codes "explain" ∷ fault ∷ flag) ≡ asked_in (Some (codes "explain", rows_after explain_built.rules [] (fault ∷ flag)))
unfolding clap_on_literals asked
explain_asked_steps program fault = refl

explain_asked_held : (fault : Text) → asked_in (Some (codes "explain", finished explain_built.rules (explain_all fault).held)) ≡ Some (explain fault true)
unfolding clap_on_literals
explain_asked_held fault = refl

pub json_explain_asked : (program fault : Text) → starts_with_minus fault ≡ false → asked (program ∷ codes "explain" ∷ fault ∷ codes "--json" ∷ []) ≡ Some (explain fault true)
json_explain_asked program fault e =
    explain_asked_steps program fault ∙ ap (λ (w : Walk). asked_in (Some (codes "explain", finished explain_built.rules w.held))) (explain_walk fault e) ∙ explain_asked_held fault

explain_walk_passes : (fault : Text) → starts_with_minus fault ≡ false
    → walk_passes explain_built [] (walk_from nothing_held) (fault ∷ flag) ≡ (step_passes explain_built 1 nothing_held value && walk_passes explain_built [] (of_explain.after_fault fault) flag)
explain_walk_passes fault e = plain_passes explain_built nothing_held 1 fault flag e

explain_takes_steps : (program fault : Text) → takes pfx_app (program ∷ codes "explain" ∷ fault ∷ flag) ≡ level_passes explain_built [] nothing_held (fault ∷ flag) false
unfolding clap_on_literals
explain_takes_steps program fault = and_true (level_passes explain_built [] nothing_held (fault ∷ flag) false)

explain_well_held : (fault : Text) → ends_well explain_built (step_passes explain_built 1 nothing_held value && walk_passes explain_built [] (of_explain.after_fault fault) flag) (explain_all fault).held ≡ true
unfolding clap_on_literals
explain_well_held fault = refl

pub json_explain_taken : (program fault : Text) → starts_with_minus fault ≡ false → takes pfx_app (program ∷ codes "explain" ∷ fault ∷ codes "--json" ∷ []) ≡ true
json_explain_taken program fault e =
    explain_takes_steps program fault ∙ ap₂ (λ (b : Bool) (w : Walk). ends_well explain_built b w.held) (explain_walk_passes fault e) (explain_walk fault e) ∙ explain_well_held fault
