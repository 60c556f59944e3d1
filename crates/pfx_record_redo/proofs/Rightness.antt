-- When a record is right.
use Rattle.std.specs.Prelude.{◌≡◌, ℕ, ◌+◌, ◌<◌, ◌≤◌, ◌^◌, ◌==◌, ◌&&◌, nat_lt, Bool, true, false, List, length, Option, slice_get, IsTrue, refl}
use Rattle.std.specs.List.{list_all}
use Rattle.std.proofs.Common.{sym, ◌∙◌, ap, arith, subst, inl, inr}
use Rattle.std.proofs.lemmas.Bool.{cases_lt, eqb-true, false≢true}
use Rattle.std.proofs.lemmas.List.{length-map}
use Rattle.std.proofs.lemmas.Option.{slice_get_past}
use Rattle.pfx_weights.specs.Rows.{is_in, IsFullRow}
use Rattle.pfx_columns.specs.Ledgers.{IsFair, IsLedger, after, total}
use Rattle.pfx_columns.proofs.Shown.{ledger_after}
use Rattle.pfx_machine.specs.Fitting.{fits}
use Rattle.pfx_machine.proofs.Fits.{fits_of, fitting}
use Rattle.pfx_jobs.specs.Kind.{Kind}
use Rattle.pfx_machine.specs.Plain.{whole, IsState}
use Rattle.pfx_machine.specs.Plain as machine
use Rattle.pfx_record.specs.Records.{Recorded, submitted, ran, withdrawn, record_fits, rises_from, tasks_of}
use Rattle.pfx_record.specs.declared.record.Place.{Place}
use Rattle.pfx_record.proofs.Rising.{both, of_both}
use Rattle.pfx_machine.specs.Jobs.{has_job, is_free}
use Rattle.pfx_record_redo.specs.Applying.{after_record, form_at, is_apt, is_flagged, is_right}
use Rattle.pfx_record_redo.proofs.Commons.{number_after}
use Rattle.pfx_record_redo.proofs.Rows.{strict, tasks_below}
use Rattle.pfx_record_redo.proofs.Effects.{after-ran, after-submitted, after-withdrawn}

abbrev pub Flags : {J : Type 0} → Kind J → machine.Plain J → List (Place J) → Type 0
Flags K s row = IsTrue (list_all (λ place. nat_lt place.task (total s.ledger) && is_flagged K s.jobs place) row)

pub full_row : {J : Type 0} (K : Kind J) (s : machine.Plain J) (row : List (Place J)) → s.ledger.set.workers ≤ 64 → IsTrue (record_fits (form_at s) (ran row)) → Flags K s row →
    IsFullRow s.ledger.set.workers (total s.ledger) (tasks_of row)
full_row K s row few form flags =
    let parts = both (length row == s.ledger.set.workers) (rises_from 0 (tasks_of row)) form in
    let long : length (tasks_of row) ≡ s.ledger.set.workers = length-map row (λ place. place.task) ∙ eqb-true (length row) s.ledger.set.workers parts.0 in
    record {
      rising = (omega (arith, long, few), strict 0 (tasks_of row) parts.1);
      full = long;
      below = tasks_below K (total s.ledger) s.jobs row flags;
    }

none_of : (a b : Bool) → (a && (b && false)) ≡ false
none_of true true = refl
none_of true false = refl
none_of false b = refl

unfit : {J : Type 0} (K : Kind J) (s : machine.Plain J) (done : Recorded J) → (fits (after_record s done) ≡ true → ⊥) → false ≡ is_right K s done
unfit K s done never = by_fits (fits (after_record s done)) refl
  where
    by_fits : (b : Bool) → fits (after_record s done) ≡ b → false ≡ is_right K s done
    by_fits true is = absurd (never is)
    by_fits false is = sym (ap (λ b. record_fits (form_at s) done && (is_apt K s done && b)) is ∙ none_of (record_fits (form_at s) done) (is_apt K s done))

-- no row can be run there
pub row_wrong : {J : Type 0} (K : Kind J) (s : machine.Plain J) (row : List (Place J)) → s.ledger.set.workers ≤ 64 → IsTrue (record_fits (form_at s) (ran row)) → Flags K s row →
    (IsFullRow s.ledger.set.workers (total s.ledger) (tasks_of row) → whole s + 1 < 2 ^ 40 → IsFair (after s.ledger (is_in (tasks_of row))) → ⊥) → false ≡ is_right K s (ran row)
row_wrong K s row few form flags never = unfit K s (ran row) (λ is.
    let h = fitting (after_record s (ran row)) is in
    never (full_row K s row few form flags) (let next : whole (after_record s (ran row)) ≡ whole s + 1 = ap whole (after-ran s row) ∙ omega arith in omega (arith, next, h.slot)) (subst (λ t. IsFair t.ledger) (after-ran s row) h.fair))

-- a row is run there
pub row_right : {J : Type 0} (K : Kind J) (s : machine.Plain J) (row : List (Place J)) → IsLedger s.ledger → s.number + 1 < 2 ^ 48 → IsTrue (record_fits (form_at s) (ran row)) → Flags K s row →
    IsFullRow s.ledger.set.workers (total s.ledger) (tasks_of row) → whole s + 1 < 2 ^ 40 → IsFair (after s.ledger (is_in (tasks_of row))) → true ≡ is_right K s (ran row)
row_right K s row h below form flags full less fair =
    let next : IsLedger (after s.ledger (is_in (tasks_of row))) = ledger_after s.ledger (tasks_of row) h full (omega (arith, less)) fair in
    let good : fits (after_record s (ran row)) ≡ true = ap fits (after-ran s row) ∙ fits_of _ (record { number = below; slot = omega (arith, less); fair = next.fair; sum = next.sum }) in
    sym (of_both _ _ form (of_both _ _ flags good))

-- a job is given, or taken away

plain_fits : {J : Type 0} (s : machine.Plain J) (jobs : List (Option J)) → IsState s → s.number + 1 < 2 ^ 48 → fits (record { number = s.number + 1; from = s.from; ledger = s.ledger; jobs = jobs; segment = s.segment }) ≡ true
plain_fits s jobs h below = fits_of _ (record { number = below; slot = h.slot; fair = h.ledger.fair; sum = h.ledger.sum })

pub submit_right : {J : Type 0} (K : Kind J) (s : machine.Plain J) (t : ℕ) (job : J) → IsState s → s.number + 1 < 2 ^ 48 → IsTrue (record_fits (form_at s) (submitted t job)) →
    is_free K (slice_get s.jobs t) ≡ true → true ≡ is_right K s (submitted t job)
submit_right K s t job h below form free = sym (of_both _ _ form (of_both _ _ free (ap fits (after-submitted K s t job) ∙ plain_fits s _ h below)))

pub withdraw_right : {J : Type 0} (K : Kind J) (s : machine.Plain J) (t : ℕ) → IsState s → s.number + 1 < 2 ^ 48 → IsTrue (record_fits {J = J} (form_at s) (withdrawn t)) →
    has_job (slice_get s.jobs t) ≡ true → true ≡ is_right K s (withdrawn t)
withdraw_right K s t h below form has = sym (of_both _ _ form (of_both _ _ has (ap fits (after-withdrawn K s t) ∙ plain_fits s _ h below)))

-- a number above the last one
pub number_wrong : {J : Type 0} (K : Kind J) (s : machine.Plain J) (done : Recorded J) → 2 ^ 48 ≤ s.number + 1 → false ≡ is_right K s done
number_wrong K s done above = unfit K s done (λ is. let h = fitting (after_record s done) is in let n = h.number in let next = number_after s done in omega (arith, n, next, above))

pub free_is_real : {J : Type 0} (K : Kind J) (jobs : List (Option J)) (t : ℕ) → is_free K (slice_get jobs t) ≡ true → t < length jobs
free_is_real K jobs t h = elim (cases_lt t (length jobs)) [
  | inl less ↦ less
  | inr more ↦ absurd (false≢true (sym (ap (is_free K) (slice_get_past jobs t more)) ∙ h))
]

pub job_is_real : {J : Type 0} (jobs : List (Option J)) (t : ℕ) → has_job (slice_get jobs t) ≡ true → t < length jobs
job_is_real jobs t h = elim (cases_lt t (length jobs)) [
  | inl less ↦ less
  | inr more ↦ absurd (false≢true (sym (ap has_job (slice_get_past jobs t more)) ∙ h))
]
