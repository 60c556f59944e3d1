-- What records do, task by task and job by job.
use Rattle.std.specs.Prelude.{◌≡◌, ◌≢◌, ℕ, zero, suc, ◌+◌, ◌<◌, ◌≤◌, ◌==◌, ◌||◌, if◌then◌else◌, Bool, true, false, List, [], ◌∷◌, length, Option, Some, None, IsTrue, refl, slice_set}
use Rattle.std.proofs.Common.{sym, ◌∙◌, ap, ap₂, arith, drop, eq-eqb, get_or}
use Rattle.std.proofs.lemmas.Bool.{cond-true, cond-false, eqb-true, ne_eqb, true≢false}
use Rattle.pfx_weights.specs.Rows.{is_in, one}
use Rattle.pfx_columns.specs.Ledgers.{add, after}
use Rattle.pfx_jobs.specs.Kind.{Kind}
use Rattle.pfx_machine.specs.Plain as machine
use Rattle.pfx_machine.specs.declared.plain.Happening.TheVariants.{Given as given, Taken as taken}
use Rattle.pfx_machine.specs.Steps.{jobs_step}
use Rattle.std.proofs.lemmas.List.{drop_all}
use Rattle.pfx_machine.proofs.Places.{jobs_step-given, jobs_step-taken}
use Rattle.pfx_record.specs.Effect.{counted_from, holds, instead_of, jobs_from, state_in}
use Rattle.pfx_record.specs.Records.{submitted, ran, withdrawn, rises_from, tasks_of}
use Rattle.pfx_record.specs.declared.record.Place.{Place}
use Rattle.pfx_record_redo.specs.Applying.{after_record}
use Rattle.pfx_record_redo.proofs.Rows.{holds-is_in, place_apart, place_behind}

-- allocations

one_more : (b : Bool) (a : ℕ) → (if b then a + 1 else a) ≡ a + one b
one_more true a = refl
one_more false a = omega arith

pub counted-add : {J : Type 0} (row : List (Place J)) (x : ℕ) (allocs : List ℕ) → counted_from row x allocs ≡ add (is_in (tasks_of row)) x allocs
counted-add row x [] = refl
counted-add row x (a ∷ allocs) = ap₂ ◌∷◌ (ap (λ b. if b then a + 1 else a) (holds-is_in row x) ∙ one_more (is_in (tasks_of row) x) a) (counted-add row (x + 1) allocs)

-- jobs given and taken

pub submitted-jobs : {J : Type 0} (K : Kind J) (t : ℕ) (job : J) (i : ℕ) (jobs : List (Option J)) → jobs_from (submitted t job) i jobs ≡ jobs_step K i (given t job) jobs
submitted-jobs K t job i [] = refl
submitted-jobs K t job i (o ∷ jobs) = ap (λ rest. (if t == i then Some job else o) ∷ rest) (submitted-jobs K t job (i + 1) jobs)

pub withdrawn-jobs : {J : Type 0} (K : Kind J) (t i : ℕ) (jobs : List (Option J)) → jobs_from (withdrawn t) i jobs ≡ jobs_step K i (taken t) jobs
withdrawn-jobs K t i [] = refl
withdrawn-jobs K t i (o ∷ jobs) = ap (λ rest. (if t == i then None else o) ∷ rest) (withdrawn-jobs K t (i + 1) jobs)

pub after-submitted : {J : Type 0} (K : Kind J) (s : machine.Plain J) (t : ℕ) (job : J) → after_record s (submitted t job) ≡ record { number = s.number + 1; from = s.from; ledger = s.ledger; jobs = slice_set s.jobs t (Some job); segment = s.segment }
after-submitted K s t job =
    let jobs = submitted-jobs K t job 0 s.jobs ∙ jobs_step-given K t job s.jobs in
    λ i. record { number = s.number + 1; from = s.from; ledger = s.ledger; jobs = jobs i; segment = s.segment }

pub after-withdrawn : {J : Type 0} (K : Kind J) (s : machine.Plain J) (t : ℕ) → after_record s (withdrawn t) ≡ record { number = s.number + 1; from = s.from; ledger = s.ledger; jobs = slice_set s.jobs t None; segment = s.segment }
after-withdrawn K s t =
    let jobs = withdrawn-jobs K t 0 s.jobs ∙ jobs_step-taken K t s.jobs in
    λ i. record { number = s.number + 1; from = s.from; ledger = s.ledger; jobs = jobs i; segment = s.segment }

pub after-ran : {J : Type 0} (s : machine.Plain J) (row : List (Place J)) → after_record s (ran row) ≡ record { number = s.number + 1; from = s.from; ledger = after s.ledger (is_in (tasks_of row)); jobs = jobs_from (ran row) 0 s.jobs; segment = s.segment }
after-ran s row =
    let allocs = counted-add row 0 s.ledger.allocs in
    λ i. record { number = s.number + 1; from = s.from; ledger = record { set = s.ledger.set; slot = s.ledger.slot + 1; allocs = allocs i }; jobs = jobs_from (ran row) 0 s.jobs; segment = s.segment }

-- the states of a row, written one after the other

absent_first : {J : Type 0} (state rest : Option J) (b more : Bool) → (b || more) ≡ false → (more ≡ false → rest ≡ None) → (if b then state else rest) ≡ None
absent_first state rest true more h next = absurd (true≢false h)
absent_first state rest false more h next = next h

pub absent : {J : Type 0} (row : List (Place J)) (x : ℕ) → holds row x ≡ false → state_in row x ≡ None
absent [] x h = refl
absent (place ∷ row) x h = absent_first place.state (state_in row x) (place.task == x) (holds row x) h (absent row x)

pub no_states : {J : Type 0} (i : ℕ) (jobs : List (Option J)) → jobs_from (ran []) i jobs ≡ jobs
no_states i [] = refl
no_states i (o ∷ jobs) = ap (λ rest. o ∷ rest) (no_states (i + 1) jobs)

skip_head : {J : Type 0} (place : Place J) (row : List (Place J)) (i : ℕ) (o : Option J) → place.task ≢ i → instead_of (state_in (place ∷ row) i) o ≡ instead_of (state_in row i) o
skip_head place row i o other = ap (λ r. instead_of r o) (cond-false _ _ _ (ne_eqb place.task i other))

-- a task before all of these
skip_before : {J : Type 0} (place : Place J) (row : List (Place J)) (i : ℕ) (jobs : List (Option J)) → place.task < i → jobs_from (ran (place ∷ row)) i jobs ≡ jobs_from (ran row) i jobs
skip_before place row i [] h = refl
skip_before place row i (o ∷ jobs) h = ap₂ ◌∷◌ (skip_head place row i o (λ (e : place.task ≡ i). omega arith)) (skip_before place row (i + 1) jobs (omega arith))

put_from : {J : Type 0} (place : Place J) (row : List (Place J)) (i k : ℕ) (state : J) (jobs : List (Option J)) → place.task ≡ i + k → place.state ≡ Some state → holds row place.task ≡ false →
    jobs_from (ran (place ∷ row)) i jobs ≡ jobs_from (ran row) i (slice_set jobs k (Some state))
put_from place row i k state [] e is apart = refl
put_from place row i zero state (o ∷ jobs) e is apart =
    let here : place.task ≡ i = omega arith in
    let left : instead_of (state_in (place ∷ row) i) o ≡ Some state = ap (λ r. instead_of r o) (cond-true _ _ _ (eq-eqb place.task i here) ∙ is) in
    let right : instead_of (state_in row i) (Some state) ≡ Some state = ap (λ r. instead_of r (Some state)) (absent row i (ap (holds row) (sym here) ∙ apart)) in
    ap₂ ◌∷◌ (left ∙ sym right) (skip_before place row (i + 1) jobs (omega arith))
put_from place row i (suc k) state (o ∷ jobs) e is apart =
    ap₂ ◌∷◌ (skip_head place row i o (λ (f : place.task ≡ i). omega arith)) (put_from place row (i + 1) k state jobs (omega arith) is apart)

-- a place with a state: that goes to its task
pub put_state : {J : Type 0} (place : Place J) (row : List (Place J)) (state : J) (jobs : List (Option J)) → place.state ≡ Some state → holds row place.task ≡ false →
    jobs_from (ran (place ∷ row)) 0 jobs ≡ jobs_from (ran row) 0 (slice_set jobs place.task (Some state))
put_state place row state jobs is apart = put_from place row 0 place.task state jobs (omega arith) is apart

-- a place without one: nothing is written
keep_head : {J : Type 0} (place : Place J) (row : List (Place J)) (i : ℕ) (o : Option J) → place.state ≡ None → holds row place.task ≡ false → (b : Bool) → (place.task == i) ≡ b → instead_of (if b then place.state else state_in row i) o ≡ instead_of (state_in row i) o
keep_head place row i o is apart false same = refl
keep_head place row i o is apart true same = ap (λ r. instead_of r o) (is ∙ sym (absent row i (ap (holds row) (sym (eqb-true place.task i same)) ∙ apart)))

keep_from : {J : Type 0} (place : Place J) (row : List (Place J)) (i : ℕ) (jobs : List (Option J)) → place.state ≡ None → holds row place.task ≡ false → jobs_from (ran (place ∷ row)) i jobs ≡ jobs_from (ran row) i jobs
keep_from place row i [] is apart = refl
keep_from place row i (o ∷ jobs) is apart = ap₂ ◌∷◌ (keep_head place row i o is apart (place.task == i) refl) (keep_from place row (i + 1) jobs is apart)

pub keep_state : {J : Type 0} (place : Place J) (row : List (Place J)) (jobs : List (Option J)) → place.state ≡ None → holds row place.task ≡ false → jobs_from (ran (place ∷ row)) 0 jobs ≡ jobs_from (ran row) 0 jobs
keep_state place row jobs is apart = keep_from place row 0 jobs is apart

-- one place of the row done, if the states that are left give the same
pub put_next : {J : Type 0} (row : List (Place J)) (i : ℕ) (place : Place J) (state : J) (jobs now all : List (Option J)) → place ≡ get_or row i place → i < length row → IsTrue (rises_from 0 (tasks_of row)) →
    jobs_from (ran (drop i row)) 0 jobs ≡ all → place.state ≡ Some state → now ≡ slice_set jobs place.task (Some state) → jobs_from (ran (drop (i + 1) row)) 0 now ≡ all
put_next row i place state jobs now all is l rises before has written =
    ap (jobs_from (ran (drop (i + 1) row)) 0) written
    ∙ (sym (put_state place (drop (i + 1) row) state jobs has (place_apart row i place is l rises))
    ∙ (ap (λ r. jobs_from (ran r) 0 jobs) (sym (place_behind row i place is l)) ∙ before))

pub keep_next : {J : Type 0} (row : List (Place J)) (i : ℕ) (place : Place J) (jobs all : List (Option J)) → place ≡ get_or row i place → i < length row → IsTrue (rises_from 0 (tasks_of row)) →
    jobs_from (ran (drop i row)) 0 jobs ≡ all → place.state ≡ None → jobs_from (ran (drop (i + 1) row)) 0 jobs ≡ all
keep_next row i place jobs all is l rises before has =
    sym (keep_state place (drop (i + 1) row) jobs has (place_apart row i place is l rises))
    ∙ (ap (λ r. jobs_from (ran r) 0 jobs) (sym (place_behind row i place is l)) ∙ before)

-- none is left
pub put_end : {J : Type 0} (row : List (Place J)) (i : ℕ) (jobs all : List (Option J)) → length row ≤ i → jobs_from (ran (drop i row)) 0 jobs ≡ all → jobs ≡ all
put_end row i jobs all l h = sym (no_states 0 jobs) ∙ (ap (λ r. jobs_from (ran r) 0 jobs) (sym (drop_all i row l)) ∙ h)
