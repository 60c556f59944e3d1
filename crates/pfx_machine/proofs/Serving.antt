-- Serving the tasks of a row one after the other, each at its place in the list of jobs.
use Rattle.std.specs.Prelude.{◌≡◌, ◌≢◌, ℕ, ◌+◌, ◌<◌, ◌≤◌, ◌==◌, ◌||◌, if◌then◌else◌, Bool, true, false, List, [], ◌∷◌, length, drop, Option, Some, None, refl, slice_get, slice_set, ⊤}
use Rattle.std.proofs.Common.{zero, suc, sym, ◌∙◌, ap, ap₂, arith, eq-eqb, get_or, subst}
use Rattle.std.proofs.lemmas.Bool.{ne_eqb, eqb-true, true≢false, false≢true}
use Rattle.std.proofs.lemmas.List.{drop_more}
use Rattle.std.proofs.lemmas.Option.{slice_get-get_or, slice_get_past}
use Rattle.std.specs.List.Sorted.{IsStrictlyIncreasing}
use Rattle.pfx_weights.specs.Rows.{is_in}
use Rattle.pfx_weights.proofs.RowSets.{none_is}
use Rattle.pfx_jobs.specs.Kind.{Kind}
use Rattle.pfx_machine.specs.Happenings.{ran}
use Rattle.pfx_machine.specs.Steps.{once_job, job_step, jobs_step, served}

-- no number of the list stands in it again
abbrev pub Apart : List ℕ → Type 0
Apart [] = ⊤
Apart (x ∷ row) = (is_in row x ≡ false) × Apart row

below_rest : (x : ℕ) (row : List ℕ) → IsStrictlyIncreasing (x ∷ row) → (i : ℕ) → i < length row → x < get_or row i 0
below_rest x row rises zero l = rises 0 (omega arith)
below_rest x row rises (suc i) l =
    let before = below_rest x row rises i (omega arith) in
    let place : suc i + 1 ≡ suc (suc i) = omega arith in
    let next : get_or row i 0 < get_or row (suc i) 0 = subst (λ k. get_or row i 0 < get_or (x ∷ row) k 0) place (rises (suc i) (omega arith)) in
    omega arith

rest_rises : (x : ℕ) (row : List ℕ) → IsStrictlyIncreasing (x ∷ row) → IsStrictlyIncreasing row
rest_rises x row rises k l =
    let place : suc k + 1 ≡ suc (k + 1) = omega arith in
    subst (λ n. get_or row k 0 < get_or (x ∷ row) n 0) place (rises (suc k) (omega arith))

pub apart_of : (row : List ℕ) → IsStrictlyIncreasing row → Apart row
apart_of [] rises = tt
apart_of (x ∷ row) rises = (none_is row x (λ i l e. omega (arith, below_rest x row rises i l)), apart_of row (rest_rises x row rises))

apart_drop : (i : ℕ) (row : List ℕ) → Apart row → Apart (drop i row)
apart_drop zero row apart = apart
apart_drop (suc i) [] apart = tt
apart_drop (suc i) (x ∷ row) apart = apart_drop i row apart.1

-- the number at a place isn't among those behind it
pub apart_at : (row : List ℕ) (i : ℕ) → IsStrictlyIncreasing row → i < length row → is_in (drop (i + 1) row) (get_or row i 0) ≡ false
apart_at row i rises l = (subst Apart (drop_more row i 0 l) (apart_drop i row (apart_of row rises))).0

-- a row's first task served, and then the others

first_then : {A : Type 0} (f : A → A) (b c : Bool) (o : A) → (b ≡ true → c ≡ false) →
    (if b || c then f o else o) ≡ (if c then f (if b || false then f o else o) else (if b || false then f o else o))
first_then f true true o h = absurd (true≢false (h refl))
first_then f true false o h = refl
first_then f false true o h = refl
first_then f false false o h = refl

other_in : (row : List ℕ) (x t : ℕ) → is_in row x ≡ false → (x == t) ≡ true → is_in row t ≡ false
other_in row x t apart same = subst (λ n. is_in row n ≡ false) (eqb-true x t same) apart

pub served-cons : {J : Type 0} (K : Kind J) (x : ℕ) (row : List ℕ) (i : ℕ) (jobs : List (Option J)) → is_in row x ≡ false →
    jobs_step K i (ran 0 (x ∷ row)) jobs ≡ jobs_step K i (ran 0 row) (jobs_step K i (ran 0 (x ∷ [])) jobs)
served-cons K x row i [] apart = refl
served-cons K x row i (o ∷ jobs) apart =
    ap₂ ◌∷◌ (first_then (once_job K) (x == i) (is_in row i) o (other_in row x i apart)) (served-cons K x row (i + 1) jobs apart)

pub served-none : {J : Type 0} (K : Kind J) (i : ℕ) (jobs : List (Option J)) → jobs_step K i (ran 0 []) jobs ≡ jobs
served-none K i [] = refl
served-none K i (o ∷ jobs) = ap (λ rest. o ∷ rest) (served-none K (i + 1) jobs)

or_false : {A : Type 0} (b c : Bool) (x y : A) → b ≡ c → (if b || false then x else y) ≡ (if c then x else y)
or_false true true x y h = refl
or_false false false x y h = refl
or_false true false x y h = absurd (true≢false h)
or_false false true x y h = absurd (false≢true h)

-- one task served, before its place
served_before : {J : Type 0} (K : Kind J) (x i : ℕ) (jobs : List (Option J)) → x < i → jobs_step K i (ran 0 (x ∷ [])) jobs ≡ jobs
served_before K x i [] l = refl
served_before K x i (o ∷ jobs) l = ap₂ ◌∷◌ (or_false (x == i) false (once_job K o) o (ne_eqb x i (λ e. omega arith))) (served_before K x (i + 1) jobs (omega arith))

-- one task served, by its place
abbrev pub served_with : {J : Type 0} → Kind J → List (Option J) → ℕ → Option (Option J) → List (Option J)
served_with K jobs k None = jobs
served_with K jobs k (Some o) = slice_set jobs k (once_job K o)

with_one_before : {J : Type 0} (K : Kind J) (p : Option J) (jobs : List (Option J)) (k : ℕ) (at : Option (Option J)) →
    p ∷ served_with K jobs k at ≡ served_with K (p ∷ jobs) (suc k) at
with_one_before K p jobs k None = refl
with_one_before K p jobs k (Some o) = refl

served_from : {J : Type 0} (K : Kind J) (x i k : ℕ) (jobs : List (Option J)) → x ≡ i + k → jobs_step K i (ran 0 (x ∷ [])) jobs ≡ served_with K jobs k (slice_get jobs k)
served_from K x i k [] e = refl
served_from K x i zero (o ∷ jobs) e = ap₂ ◌∷◌ (or_false (x == i) true (once_job K o) o (eq-eqb x i (omega arith))) (served_before K x (i + 1) jobs (omega arith))
served_from K x i (suc k) (o ∷ jobs) e =
    ap₂ ◌∷◌ (or_false (x == i) false (once_job K o) o (ne_eqb x i (λ (f : x ≡ i). omega arith))) (served_from K x (i + 1) k jobs (omega arith))
    ∙ with_one_before K o jobs k (slice_get jobs k)

pub served-one : {J : Type 0} (K : Kind J) (x : ℕ) (jobs : List (Option J)) → served K (x ∷ []) jobs ≡ served_with K jobs x (slice_get jobs x)
served-one K x jobs = served_from K x 0 x jobs (omega arith)

-- another task's place is as it was
stays_from : {J : Type 0} (K : Kind J) (x i k : ℕ) (jobs : List (Option J)) → x ≢ i + k → slice_get (jobs_step K i (ran 0 (x ∷ [])) jobs) k ≡ slice_get jobs k
stays_from K x i k [] e = refl
stays_from K x i zero (o ∷ jobs) e = ap Some (or_false (x == i) false (once_job K o) o (ne_eqb x i (λ (f : x ≡ i). e (omega arith))))
stays_from K x i (suc k) (o ∷ jobs) e = stays_from K x (i + 1) k jobs (λ f. e (omega arith))

pub served-other : {J : Type 0} (K : Kind J) (x y : ℕ) (jobs : List (Option J)) → x ≢ y → slice_get (served K (x ∷ []) jobs) y ≡ slice_get jobs y
served-other K x y jobs e = stays_from K x 0 y jobs (λ (f : x ≡ 0 + y). e (omega arith))

pub length-jobs_step : {J : Type 0} (K : Kind J) (i slot : ℕ) (row : List ℕ) (jobs : List (Option J)) → length (jobs_step K i (ran slot row) jobs) ≡ length jobs
length-jobs_step K i slot row [] = refl
length-jobs_step K i slot row (o ∷ jobs) = ap suc (length-jobs_step K (i + 1) slot row jobs)

-- the slot's number doesn't matter to the jobs
pub served-slot : {J : Type 0} (K : Kind J) (i slot : ℕ) (row : List ℕ) (jobs : List (Option J)) → jobs_step K i (ran 0 row) jobs ≡ jobs_step K i (ran slot row) jobs
served-slot K i slot row [] = refl
served-slot K i slot row (o ∷ jobs) = ap (λ rest. job_step K i (ran 0 row) o ∷ rest) (served-slot K (i + 1) slot row jobs)

-- one step of the loops over a row

pub serve_placed : {J : Type 0} (K : Kind J) (x at : ℕ) (jobs : List (Option J)) (v d : Option J) → at ≡ x → at < length jobs → v ≡ once_job K (get_or jobs at d) →
    slice_set jobs at v ≡ served K (x ∷ []) jobs
serve_placed K x at jobs v d same within is =
    ap (slice_set jobs at) is
    ∙ (sym (ap (served_with K jobs at) (slice_get-get_or jobs at d within))
    ∙ (ap (λ k. served_with K jobs k (slice_get jobs k)) same ∙ sym (served-one K x jobs)))

pub serve_past : {J : Type 0} (K : Kind J) (x at : ℕ) (jobs : List (Option J)) → at ≡ x → length jobs ≤ at → jobs ≡ served K (x ∷ []) jobs
serve_past K x at jobs same past =
    sym (ap (served_with K jobs at) (slice_get_past jobs at past))
    ∙ (ap (λ k. served_with K jobs k (slice_get jobs k)) same ∙ sym (served-one K x jobs))

pub serve_next : {J : Type 0} (K : Kind J) (row : List ℕ) (i x : ℕ) (jobs next all : List (Option J)) → IsStrictlyIncreasing row → i < length row → x ≡ get_or row i 0 →
    next ≡ served K (x ∷ []) jobs → served K (drop i row) jobs ≡ all → served K (drop (i + 1) row) next ≡ all
serve_next K row i x jobs next all rises within at is before =
    let apart : is_in (drop (i + 1) row) x ≡ false = subst (λ n. is_in (drop (i + 1) row) n ≡ false) (sym at) (apart_at row i rises within) in
    let split : drop i row ≡ x ∷ drop (i + 1) row = drop_more row i 0 within ∙ ap (λ n. n ∷ drop (i + 1) row) (sym at) in
    ap (served K (drop (i + 1) row)) is ∙ (sym (served-cons K x (drop (i + 1) row) 0 jobs apart) ∙ (ap (λ r. served K r jobs) (sym split) ∙ before))

pub drop_past : (i : ℕ) (row : List ℕ) → length row ≤ i → drop i row ≡ []
drop_past zero [] h = refl
drop_past zero (x ∷ row) h = absurd (omega arith)
drop_past (suc i) [] h = refl
drop_past (suc i) (x ∷ row) h = drop_past i row (omega arith)

pub serve_end : {J : Type 0} (K : Kind J) (row : List ℕ) (i : ℕ) (jobs all : List (Option J)) → length row ≤ i → served K (drop i row) jobs ≡ all → jobs ≡ all
serve_end K row i jobs all past before = sym (served-none K 0 jobs) ∙ (ap (λ r. served K r jobs) (sym (drop_past i row past)) ∙ before)
