-- One happening more, as the plain programs read them.
use Rattle.std.specs.Prelude.{◌≡◌, ℕ, ◌+◌, ◌<◌, List, [], ◌∷◌, ◌++◌, length, take, Option, cond}
use Rattle.std.proofs.Common.{sym, ◌∙◌, ap, ap₂, get_or}
use Rattle.std.proofs.lemmas.List.{take_more}
use Rattle.std.proofs.lemmas.List.Sums.{sum_by-append}
use Rattle.pfx_weights.specs.Rows.{is_in}
use Rattle.pfx_choice.specs.Plans.{times_in}
use Rattle.pfx_jobs.specs.Kind.{Kind, Laws}
use Rattle.pfx_machine.specs.Happenings.{Happening, rows_of}
use Rattle.pfx_machine.specs.Outcome.{job_after}
use Rattle.pfx_machine.specs.Steps.{job_step}
use Rattle.pfx_machine.proofs.Snoc.{job_after-snoc, rows-snoc}

take_next : {J : Type 0} (happened : List (Happening J)) (i : ℕ) (h : Happening J) → i < length happened → h ≡ get_or happened i h → take (i + 1) happened ≡ take i happened ++ h ∷ []
take_next happened i h within is = take_more happened i h within ∙ ap (λ x. take i happened ++ x ∷ []) (sym is)

pub job_next : {J : Type 0} (K : Kind J) (L : Laws K) (task : ℕ) (before old new : Option J) (happened : List (Happening J)) (i : ℕ) (h : Happening J) →
    i < length happened → h ≡ get_or happened i h → old ≡ job_after K task before (take i happened) → new ≡ job_step K task h old → new ≡ job_after K task before (take (i + 1) happened)
job_next K L task before old new happened i h within is was step =
    step ∙ (ap (job_step K task h) was ∙ (sym (job_after-snoc K L task before (take i happened) h) ∙ ap (job_after K task before) (sym (take_next happened i h within is))))

pub slots_next : {J : Type 0} (task : ℕ) (happened : List (Happening J)) (i : ℕ) (h : Happening J) (old more : ℕ) →
    i < length happened → h ≡ get_or happened i h → old ≡ times_in (rows_of (take i happened)) task → more ≡ times_in (rows_of (h ∷ [])) task →
    old + more ≡ times_in (rows_of (take (i + 1) happened)) task
slots_next task happened i h old more within is was one =
    ap₂ (λ a b. a + b) was one
    ∙ (sym (sum_by-append (λ r. cond (is_in r task) 1 0) (rows_of (take i happened)) (rows_of (h ∷ [])))
    ∙ (ap (λ rows. times_in rows task) (sym (rows-snoc (take i happened) h))
    ∙ ap (λ hs. times_in (rows_of hs) task) (sym (take_next happened i h within is))))
