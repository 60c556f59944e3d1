-- Rows of records as rows of tasks.
use Rattle.std.specs.Prelude.{◌≡◌, ℕ, zero, suc, ◌+◌, ◌<◌, ◌≤◌, ◌==◌, ◌&&◌, ◌||◌, nat_lt, not, Bool, false, List, [], ◌∷◌, length, All, Option, Some, None, slice_get, IsTrue, refl}
use Rattle.std.specs.List.{list_all}
use Rattle.std.specs.List.Sorted.{IsStrictlyIncreasing}
use Rattle.std.proofs.Common.{sym, ◌∙◌, ap, arith, drop, take, get_or, subst, inl, inr}
use Rattle.std.proofs.lemmas.Bool.{cases_lt, ne_eqb, false≢true, ltb-true}
use Rattle.std.proofs.lemmas.List.{drop_more, length-map, take_all}
use Rattle.std.proofs.lemmas.Option.{slice_get_past}
use Rattle.pfx_weights.specs.Rows.{is_in, IsRow}
use Rattle.pfx_jobs.specs.Kind.{Kind}
use Rattle.pfx_record.specs.Effect.{holds}
use Rattle.pfx_record.specs.Records.{tasks_of, rises_from}
use Rattle.pfx_record.specs.declared.record.Place.{Place}
use Rattle.pfx_record.proofs.Rising.{both, rises}
use Rattle.pfx_machine.specs.Jobs.{is_busy}
use Rattle.pfx_record_redo.specs.Applying.{is_flagged}

pub holds-is_in : {J : Type 0} (row : List (Place J)) (x : ℕ) → holds row x ≡ is_in (tasks_of row) x
holds-is_in [] x = refl
holds-is_in (place ∷ row) x = ap (λ b. (place.task == x) || b) (holds-is_in row x)

-- what rises from a number on has nothing below it
pub none_below : (low : ℕ) (tasks : List ℕ) → IsTrue (rises_from low tasks) → (x : ℕ) → x < low → is_in tasks x ≡ false
none_below low [] h x l = refl
none_below low (task ∷ tasks) h x l =
    let r = rises low task tasks h in
    let a = r.above in
    rw (ne_eqb task x (λ (e : task ≡ x). omega arith)) (none_below (task + 1) tasks r.others x (omega arith))

-- a task of the row isn't among those behind it
pub not_again : {J : Type 0} (low : ℕ) (place : Place J) (row : List (Place J)) → IsTrue (rises_from low (tasks_of (place ∷ row))) → holds row place.task ≡ false
not_again low place row h =
    let r = rises low place.task (tasks_of row) h in
    holds-is_in row place.task ∙ none_below (place.task + 1) (tasks_of row) r.others place.task (omega arith)

pub others_rise : {J : Type 0} (low : ℕ) (place : Place J) (row : List (Place J)) → IsTrue (rises_from low (tasks_of (place ∷ row))) → IsTrue (rises_from (place.task + 1) (tasks_of row))
others_rise low place row h = (rises low place.task (tasks_of row) h).others

first_above : (low : ℕ) (tasks : List ℕ) → IsTrue (rises_from low tasks) → 0 < length tasks → low ≤ get_or tasks 0 0
first_above low [] h l = absurd (omega arith)
first_above low (task ∷ tasks) h l = (rises low task tasks h).above

pub strict : (low : ℕ) (tasks : List ℕ) → IsTrue (rises_from low tasks) → IsStrictlyIncreasing tasks
strict low [] h k l = absurd (omega arith)
strict low (task ∷ tasks) h zero l =
    let first = first_above (task + 1) tasks (rises low task tasks h).others (omega arith) in
    omega arith
strict low (task ∷ tasks) h (suc k) l =
    let place : suc k + 1 ≡ suc (k + 1) = omega arith in
    subst (λ n. get_or tasks k 0 < get_or (task ∷ tasks) n 0) (sym place) (strict (task + 1) tasks (rises low task tasks h).others k (omega arith))

-- the tests of a row's places, as facts of its tasks
pub tasks_below : {J : Type 0} (K : Kind J) (total : ℕ) (jobs : List (Option J)) (row : List (Place J)) → IsTrue (list_all (λ place. nat_lt place.task total && is_flagged K jobs place) row) → All (λ x. x < total) (tasks_of row)
tasks_below K total jobs [] h k d b = absurd (omega arith)
tasks_below K total jobs (place ∷ row) h zero d b = ltb-true place.task total (both (nat_lt place.task total) _ (both _ (list_all (λ place. nat_lt place.task total && is_flagged K jobs place) row) h).0).0
tasks_below K total jobs (place ∷ row) h (suc k) d b = tasks_below K total jobs row (both _ (list_all (λ place. nat_lt place.task total && is_flagged K jobs place) row) h).1 k d (omega arith)

-- a row's place, and what is behind it

pub rises_drop : {J : Type 0} (i low : ℕ) (row : List (Place J)) → IsTrue (rises_from low (tasks_of row)) → (k : ℕ) × IsTrue (rises_from k (tasks_of (drop i row)))
rises_drop zero low row h = (low, h)
rises_drop (suc i) low [] h = (low, h)
rises_drop (suc i) low (place ∷ row) h = rises_drop i (place.task + 1) row (others_rise low place row h)

pub place_apart : {J : Type 0} (row : List (Place J)) (i : ℕ) (place : Place J) → place ≡ get_or row i place → i < length row → IsTrue (rises_from 0 (tasks_of row)) → holds (drop (i + 1) row) place.task ≡ false
place_apart row i place is l h =
    let split : drop i row ≡ place ∷ drop (i + 1) row = drop_more row i place l ∙ ap (λ p. p ∷ drop (i + 1) row) (sym is) in
    let rest = rises_drop i 0 row h in
    not_again rest.0 place (drop (i + 1) row) (subst (λ r. IsTrue (rises_from rest.0 (tasks_of r))) split rest.1)

pub place_behind : {J : Type 0} (row : List (Place J)) (i : ℕ) (place : Place J) → place ≡ get_or row i place → i < length row → drop i row ≡ place ∷ drop (i + 1) row
place_behind row i place is l = drop_more row i place l ∙ ap (λ p. p ∷ drop (i + 1) row) (sym is)

-- a test of each place, as a fact of one
pub test_at : {X : Type 0} (p : X → Bool) (xs : List X) (i : ℕ) (d : X) → IsTrue (list_all p xs) → i < length xs → IsTrue (p (get_or xs i d))
test_at p [] i d h l = absurd (omega arith)
test_at p (x ∷ xs) zero d h l = (both (p x) (list_all p xs) h).0
test_at p (x ∷ xs) (suc i) d h l = test_at p xs i d (both (p x) (list_all p xs) h).1 (omega arith)

pub busy_is_real : {J : Type 0} (K : Kind J) (jobs : List (Option J)) (t : ℕ) → IsTrue (is_busy K (slice_get jobs t)) → t < length jobs
busy_is_real K jobs t h = elim (cases_lt t (length jobs)) [
  | inl less ↦ less
  | inr more ↦ absurd (false≢true (sym (ap (is_busy K) (slice_get_past jobs t more)) ∙ h))
]

-- a place with a state is of a task with a job
pub put_is_real : {J : Type 0} (K : Kind J) (total : ℕ) (jobs : List (Option J)) (row : List (Place J)) (i : ℕ) (place : Place J) (state : J) →
    IsTrue (list_all (λ place. nat_lt place.task total && is_flagged K jobs place) row) → place ≡ get_or row i place → i < length row → place.state ≡ Some state → place.task < length jobs
put_is_real K total jobs row i place state h is l has =
    let here : IsTrue (nat_lt place.task total && is_flagged K jobs place) = subst (λ p. IsTrue (nat_lt p.task total && is_flagged K jobs p)) (sym is) (test_at (λ place. nat_lt place.task total && is_flagged K jobs place) row i place h l) in
    let flag : IsTrue (is_flagged K jobs place) = (both (nat_lt place.task total) (is_flagged K jobs place) here).1 in
    busy_is_real K jobs place.task (sym (ap (λ o. elim o [ Some state ↦ is_busy K (slice_get jobs place.task) | None ↦ not (is_busy K (slice_get jobs place.task)) ]) has) ∙ flag)

-- the tasks of a row, copied whole

pub all_copied : {J : Type 0} (row : List (Place J)) (i : ℕ) (tasks : List ℕ) → take i tasks ≡ take i (tasks_of row) → i ≤ length row → length row ≤ i → take (length row) tasks ≡ tasks_of row
all_copied row i tasks front l m =
    let same : i ≡ length row = omega arith in
    let whole : length (tasks_of row) ≤ length row = omega (arith, length-map row (λ place. place.task)) in
    subst (λ n. take n tasks ≡ take n (tasks_of row)) same front ∙ take_all (length row) (tasks_of row) whole

pub row_is : (front tasks : List ℕ) → front ≡ tasks → length tasks ≤ 64 → IsTrue (rises_from 0 tasks) → IsRow front
row_is front tasks is few rise = subst IsRow (sym is) (few, strict 0 tasks rise)
