-- A job given or taken is a write at the task's place.
use Rattle.std.specs.Prelude.{◌≡◌, ℕ, ◌+◌, ◌<◌, List, [], ◌∷◌, Option, Some, None, Ok, refl, slice_set}
use Rattle.std.proofs.Common.{zero, suc, sym, ◌∙◌, ap, ap₂, arith, eq-eqb}
use Rattle.std.proofs.lemmas.Bool.{cond-true, cond-false, ne_eqb}
use Rattle.pfx_jobs.specs.Kind.{Kind}
use Rattle.pfx_weights.specs.Rows.{is_in}
use Rattle.pfx_weights.specs.Sets.{FilledSet}
use Rattle.pfx_columns.specs.Ledgers.{Ledger, after, start}
use Rattle.pfx_machine.specs.Plain.{Plain, whole}
use Rattle.pfx_machine.specs.Choosing.{row_in}
use Rattle.pfx_machine.specs.Reweighing.{renewed}
use Rattle.pfx_machine.specs.Happenings.{given, taken, ran, reweighed, row_or_none}
use Rattle.pfx_machine.specs.Steps.{jobs_step, served, state_step, happening_in}
use Rattle.pfx_machine.specs.declared.command.Command.TheVariants.{Slot}
use Rattle.pfx_machine.proofs.Serving.{served-slot}

given_before : {J : Type 0} (K : Kind J) (t i : ℕ) (job : J) (jobs : List (Option J)) → t < i → jobs_step K i (given t job) jobs ≡ jobs
given_before K t i job [] h = refl
given_before K t i job (o ∷ jobs) h = ap₂ ◌∷◌ (cond-false _ _ _ (ne_eqb t i (λ e. omega arith))) (given_before K t (i + 1) job jobs (omega arith))

given_from : {J : Type 0} (K : Kind J) (t i k : ℕ) (job : J) (jobs : List (Option J)) → t ≡ i + k → jobs_step K i (given t job) jobs ≡ slice_set jobs k (Some job)
given_from K t i k job [] e = refl
given_from K t i zero job (o ∷ jobs) e = ap₂ ◌∷◌ (cond-true _ _ _ (eq-eqb t i (omega arith))) (given_before K t (i + 1) job jobs (omega arith))
given_from K t i (suc k) job (o ∷ jobs) e = ap₂ ◌∷◌ (cond-false _ _ _ (ne_eqb t i (λ (f : t ≡ i). omega arith))) (given_from K t (i + 1) k job jobs (omega arith))

pub jobs_step-given : {J : Type 0} (K : Kind J) (t : ℕ) (job : J) (jobs : List (Option J)) → jobs_step K 0 (given t job) jobs ≡ slice_set jobs t (Some job)
jobs_step-given K t job jobs = given_from K t 0 t job jobs (omega arith)

taken_before : {J : Type 0} (K : Kind J) (t i : ℕ) (jobs : List (Option J)) → t < i → jobs_step K i (taken t) jobs ≡ jobs
taken_before K t i [] h = refl
taken_before K t i (o ∷ jobs) h = ap₂ ◌∷◌ (cond-false _ _ _ (ne_eqb t i (λ e. omega arith))) (taken_before K t (i + 1) jobs (omega arith))

taken_from : {J : Type 0} (K : Kind J) (t i k : ℕ) (jobs : List (Option J)) → t ≡ i + k → jobs_step K i (taken t) jobs ≡ slice_set jobs k None
taken_from K t i k [] e = refl
taken_from K t i zero (o ∷ jobs) e = ap₂ ◌∷◌ (cond-true _ _ _ (eq-eqb t i (omega arith))) (taken_before K t (i + 1) jobs (omega arith))
taken_from K t i (suc k) (o ∷ jobs) e = ap₂ ◌∷◌ (cond-false _ _ _ (ne_eqb t i (λ (f : t ≡ i). omega arith))) (taken_from K t (i + 1) k jobs (omega arith))

pub jobs_step-taken : {J : Type 0} (K : Kind J) (t : ℕ) (jobs : List (Option J)) → jobs_step K 0 (taken t) jobs ≡ slice_set jobs t None
jobs_step-taken K t jobs = taken_from K t 0 t jobs (omega arith)

-- a new set leaves the jobs
jobs_step-new : {J : Type 0} (K : Kind J) (i slot : ℕ) (set : FilledSet) (jobs : List (Option J)) → jobs_step K i (reweighed slot set) jobs ≡ jobs
jobs_step-new K i slot set [] = refl
jobs_step-new K i slot set (o ∷ jobs) = ap (λ rest. o ∷ rest) (jobs_step-new K (i + 1) slot set jobs)

-- the whole state after a command, by what changed

pub state_step-new : {J : Type 0} (K : Kind J) (s : Plain J) (set : FilledSet) → renewed s set ≡ state_step K s (reweighed (whole s) set)
state_step-new K s set =
    let jobs = sym (jobs_step-new K 0 (whole s) set s.jobs) in
    λ i. record { number = s.number + 1; from = whole s; ledger = start set; jobs = jobs i; segment = s.segment }

pub state_step-given : {J : Type 0} (K : Kind J) (s : Plain J) (t : ℕ) (job : J) →
    record { number = s.number + 1; from = s.from; ledger = s.ledger; jobs = slice_set s.jobs t (Some job); segment = s.segment } ≡ state_step K s (given t job)
state_step-given K s t job =
    let jobs = sym (jobs_step-given K t job s.jobs) in
    λ i. record { number = s.number + 1; from = s.from; ledger = s.ledger; jobs = jobs i; segment = s.segment }

pub state_step-taken : {J : Type 0} (K : Kind J) (s : Plain J) (t : ℕ) →
    record { number = s.number + 1; from = s.from; ledger = s.ledger; jobs = slice_set s.jobs t None; segment = s.segment } ≡ state_step K s (taken t)
state_step-taken K s t =
    let jobs = sym (jobs_step-taken K t s.jobs) in
    λ i. record { number = s.number + 1; from = s.from; ledger = s.ledger; jobs = jobs i; segment = s.segment }

pub state_step-row : {J : Type 0} (K : Kind J) (s : Plain J) (row : List ℕ) (jobs : List (Option J)) (ledger : Ledger) →
    row_in s ≡ Ok row → jobs ≡ served K row s.jobs → ledger ≡ after s.ledger (is_in row) →
    record { number = s.number + 1; from = s.from; ledger = ledger; jobs = jobs; segment = s.segment } ≡ state_step K s (happening_in s Slot)
state_step-row K s row jobs ledger is served_is given_is =
    let row_is : row ≡ row_or_none (row_in s) = sym (ap row_or_none is) in
    let ledgers : ledger ≡ after s.ledger (is_in (row_or_none (row_in s))) = given_is ∙ ap (λ r. after s.ledger (is_in r)) row_is in
    let jobs_are : jobs ≡ jobs_step K 0 (ran (whole s) (row_or_none (row_in s))) s.jobs =
    served_is ∙ (served-slot K 0 (whole s) row s.jobs ∙ ap (λ r. jobs_step K 0 (ran (whole s) r) s.jobs) row_is) in
    λ i. record { number = s.number + 1; from = s.from; ledger = ledgers i; jobs = jobs_are i; segment = s.segment }
