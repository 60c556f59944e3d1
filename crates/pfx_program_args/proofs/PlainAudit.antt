-- The words `audit LOG FILE`, of any log and file that don't begin with a hyphen.
use Rattle.std.proofs.Common.{◌≡◌, Bool, codes, refl, [], ◌∷◌, Some, None, true, false, ◌∙◌, ap, ap₂, ◌&&◌, List}
use Rattle.std.specs.Str.Parse.{starts_with_minus}
use Rattle.clap.specs.Walk.{Text, Rule, Held, Walk, Step, positional, value, walked, walk_from, nothing_held, rows_after, finished, word_met, arg_by_index, to_positional, after_step}
use Rattle.clap.specs.Simple.{Shape}
use Rattle.clap.specs.Takes.{takes, word_passes, walk_passes, turn_passes, level_passes, step_passes}
use Rattle.clap.proofs.OnLiterals.{clap_on_literals}
use Rattle.pfx_program_args.specs.declared.request.AuditForm.TheVariants as form
use Rattle.pfx_program_args.specs.Commands.{pfx_app}
use Rattle.pfx_program_args.specs.Requests.{audit, asked, asked_in}
use Rattle.pfx_program_args.proofs.Plain.{sub_built, with_word, on_from, plain_on, plain_passes, ends_well, and_true}

-- ---- a word behind one that a positional of several values took

abbrev more_of : Held → Walk
more_of h = record { held = h; waiting = positional; position = 1; is_trailing = false; stopped = None }

abbrev with_more : Shape → Held → Text → Walk
with_more s h word = to_positional s.rules (arg_by_index s.rules 1) word (more_of h) h

more_met : (c : List Rule) (word : Text) (h : Held) → starts_with_minus word ≡ false → word_met c [] false positional 1 word h ≡ (h, value)
more_met c [] h e = refl
more_met c (x ∷ xs) h e = rw (e, e) refl

more_walked : (s : Shape) (h : Held) (word : Text) → starts_with_minus word ≡ false → walked s.rules [] (more_of h) word ≡ with_more s h word
unfolding walked
more_walked s h word e = ap (λ (met : Held × Step). after_step s.rules word (more_of h) met.0 met.1) (more_met s.rules word h e)

more_word_passes : (s : Shape) (word : Text) (h : Held) → starts_with_minus word ≡ false → word_passes s [] false positional word h ≡ true
more_word_passes s [] h e = refl
more_word_passes s (x ∷ xs) h e = rw (e, e) refl

more_passes : (s : Shape) (h : Held) (word : Text) → starts_with_minus word ≡ false → turn_passes s [] (more_of h) word ≡ step_passes s 1 h value
more_passes s h word e = ap₂ (λ (b : Bool) (met : Held × Step). b && step_passes s 1 met.0 met.1) (more_word_passes s word h e) (more_met s.rules word h e)

-- ---- a log and a file

abbrev pub audit_built : Shape
audit_built = sub_built 10

abbrev pub after_log : Text → Walk
after_log log = with_word audit_built 1 nothing_held log

abbrev pub after_both : Text → Text → Walk
after_both log file = with_more audit_built (after_log log).held file

more_waits : (log : Text) → after_log log ≡ more_of (after_log log).held
unfolding clap_on_literals
more_waits log = refl

pub both_walk : (log file : Text) (rest : List Text) → starts_with_minus log ≡ false → starts_with_minus file ≡ false
    → on_from audit_built (walk_from nothing_held) (log ∷ file ∷ rest) ≡ on_from audit_built (after_both log file) rest
both_walk log file rest e f =
    plain_on audit_built nothing_held 1 log (file ∷ rest) e
    ∙ ap (λ (w : Walk). on_from audit_built (walked audit_built.rules [] w file) rest) (more_waits log)
    ∙ ap (λ (w : Walk). on_from audit_built w rest) (more_walked audit_built (after_log log).held file f)

-- both words pass, where the log does
more_walk_passes : (log file : Text) (rest : List Text) → starts_with_minus file ≡ false
    → walk_passes audit_built [] (after_log log) (file ∷ rest) ≡ (step_passes audit_built 1 (after_log log).held value && walk_passes audit_built [] (after_both log file) rest)
unfolding walk_passes
more_walk_passes log file rest f =
    ap (λ (w : Walk). turn_passes audit_built [] w file && walk_passes audit_built [] (walked audit_built.rules [] w file) rest) (more_waits log)
    ∙ ap₂ (λ (b : Bool) (w : Walk). b && walk_passes audit_built [] w rest) (more_passes audit_built (after_log log).held file f) (more_walked audit_built (after_log log).held file f)

pub both_walk_passes : (log file : Text) (rest : List Text) → starts_with_minus log ≡ false → starts_with_minus file ≡ false
    → walk_passes audit_built [] (walk_from nothing_held) (log ∷ file ∷ rest)
    ≡ (step_passes audit_built 1 nothing_held value && (step_passes audit_built 1 (after_log log).held value && walk_passes audit_built [] (after_both log file) rest))
both_walk_passes log file rest e f =
    plain_passes audit_built nothing_held 1 log (file ∷ rest) e
    ∙ ap (λ (b : Bool). step_passes audit_built 1 nothing_held value && b) (more_walk_passes log file rest f)

asked_steps : (program log file : Text) → asked (program ∷ codes "audit" ∷ log ∷ file ∷ []) ≡ asked_in (Some (codes "audit", rows_after audit_built.rules [] (log ∷ file ∷ [])))
unfolding clap_on_literals asked
asked_steps program log file = refl

asked_held : (log file : Text) → asked_in (Some (codes "audit", finished audit_built.rules (after_both log file).held)) ≡ Some (audit (log ∷ file ∷ []) None None None None form.Text)
unfolding clap_on_literals
asked_held log file = refl

pub plain_audit_asked : (program log file : Text) → starts_with_minus log ≡ false → starts_with_minus file ≡ false
    → asked (program ∷ codes "audit" ∷ log ∷ file ∷ []) ≡ Some (audit (log ∷ file ∷ []) None None None None form.Text)
plain_audit_asked program log file e f =
    asked_steps program log file ∙ ap (λ (w : Walk). asked_in (Some (codes "audit", finished audit_built.rules w.held))) (both_walk log file [] e f) ∙ asked_held log file

takes_steps : (program log file : Text) → takes pfx_app (program ∷ codes "audit" ∷ log ∷ file ∷ []) ≡ level_passes audit_built [] nothing_held (log ∷ file ∷ []) false
unfolding clap_on_literals
takes_steps program log file = and_true (level_passes audit_built [] nothing_held (log ∷ file ∷ []) false)

well_held : (log file : Text)
    → ends_well audit_built (step_passes audit_built 1 nothing_held value && (step_passes audit_built 1 (after_log log).held value && walk_passes audit_built [] (after_both log file) []))
    (after_both log file).held ≡ true
unfolding clap_on_literals
well_held log file = refl

pub plain_audit_taken : (program log file : Text) → starts_with_minus log ≡ false → starts_with_minus file ≡ false → takes pfx_app (program ∷ codes "audit" ∷ log ∷ file ∷ []) ≡ true
plain_audit_taken program log file e f =
    takes_steps program log file ∙ ap₂ (λ (b : Bool) (w : Walk). ends_well audit_built b w.held) (both_walk_passes log file [] e f) (both_walk log file [] e f) ∙ well_held log file
