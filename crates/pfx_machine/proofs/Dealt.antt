-- The quanta of a slot, run and written back, are the machine's step of that slot.
use Rattle.std.specs.Prelude.{◌≡◌, ◌≢◌, ℕ, ◌+◌, ◌<◌, ◌≤◌, ◌==◌, ◌||◌, if◌then◌else◌, Bool, true, false, List, [], ◌∷◌, ◌++◌, length, Option, Some, None, refl, slice_get, slice_set}
use Rattle.std.proofs.Common.{sym, ◌∙◌, ap, ap₂, eq-eqb, get_or, drop, append_assoc, append-nil}
use Rattle.std.proofs.lemmas.Bool.{true≢false}
use Rattle.std.proofs.lemmas.List.{set-get_or, length-set, drop_more}
use Rattle.std.proofs.lemmas.Option.{get_or_from_slice_get}
use Rattle.pfx_weights.specs.Rows.{is_in}
use Rattle.pfx_jobs.specs.Kind.{Kind}
use Rattle.pfx_machine.specs.Steps.{served}
use Rattle.pfx_machine.specs.Slots.{Deal, deal, deal_at, deals, written_back}
use Rattle.pfx_machine.proofs.Serving.{Apart, drop_past, served-cons, served-none, served_with, served-one, served-other}

set_same : {A : Type 0} (xs : List A) (k : ℕ) (x : A) → slice_get xs k ≡ Some x → slice_set xs k x ≡ xs
set_same xs k x at = ap (slice_set xs k) (sym (get_or_from_slice_get xs k x x at)) ∙ set-get_or xs k x

-- one task's quantum written back is that task served
one_left : {J : Type 0} (K : Kind J) (number slot x : ℕ) (jobs : List (Option J)) (ds : List (Deal J)) (s : J) (done : Bool) → (K.left s == 0) ≡ done → slice_get jobs x ≡ Some (Some s) →
    written_back K ((if done then [] else deal number slot x s ∷ []) ++ ds) jobs ≡ written_back K ds (slice_set jobs x (Some (if done then s else K.stepped s)))
one_left K number slot x jobs ds s true is at = ap (written_back K ds) (sym (set_same jobs x (Some s) at))
one_left K number slot x jobs ds s false is at = refl

one_dealt : {J : Type 0} (K : Kind J) (number slot x : ℕ) (jobs : List (Option J)) (ds : List (Deal J)) (at : Option (Option J)) → slice_get jobs x ≡ at →
    written_back K (deal_at K number slot x at ++ ds) jobs ≡ written_back K ds (served_with K jobs x at)
one_dealt K number slot x jobs ds None is = refl
one_dealt K number slot x jobs ds (Some None) is = ap (written_back K ds) (sym (set_same jobs x None is))
one_dealt K number slot x jobs ds (Some (Some s)) is = one_left K number slot x jobs ds s (K.left s == 0) refl is

or_parts : (b c : Bool) → (b || c) ≡ false → (b ≡ false) × (c ≡ false)
or_parts false false h = (refl, refl)
or_parts true c h = absurd (true≢false h)
or_parts false true h = absurd (true≢false h)

-- serving another task leaves the quanta of a row
deals_other : {J : Type 0} (K : Kind J) (number slot x : ℕ) (row : List ℕ) (jobs : List (Option J)) → is_in row x ≡ false →
    deals K number slot row jobs ≡ deals K number slot row (served K (x ∷ []) jobs)
deals_other K number slot x [] jobs apart = refl
deals_other K number slot x (y ∷ row) jobs apart =
    let parts = or_parts (y == x) (is_in row x) apart in
    let other : x ≢ y = λ e. true≢false (sym (eq-eqb y x (sym e)) ∙ parts.0) in
    ap₂ (λ o ds. deal_at K number slot y o ++ ds) (sym (served-other K x y jobs other)) (deals_other K number slot x row jobs parts.1)

-- the quanta of a row, run and written back, are the row served
pub written-dealt : {J : Type 0} (K : Kind J) (number slot : ℕ) (row : List ℕ) (jobs : List (Option J)) → Apart row →
    written_back K (deals K number slot row jobs) jobs ≡ served K row jobs
written-dealt K number slot [] jobs apart = sym (served-none K 0 jobs)
written-dealt K number slot (x ∷ row) jobs apart =
    one_dealt K number slot x jobs (deals K number slot row jobs) (slice_get jobs x) refl
    ∙ (ap₂ (λ ds js. written_back K ds js) (deals_other K number slot x row jobs apart.0) (sym (served-one K x jobs))
    ∙ (written-dealt K number slot row (served K (x ∷ []) jobs) apart.1
    ∙ sym (served-cons K x row 0 jobs apart.0)))

-- one more quantum written back
pub written_back-snoc : {J : Type 0} (K : Kind J) (ds : List (Deal J)) (d : Deal J) (jobs : List (Option J)) →
    written_back K (ds ++ d ∷ []) jobs ≡ slice_set (written_back K ds jobs) d.task (Some (K.stepped d.before))
written_back-snoc K [] d jobs = refl
written_back-snoc K (e ∷ ds) d jobs = written_back-snoc K ds d (slice_set jobs e.task (Some (K.stepped e.before)))

pub length-written_back : {J : Type 0} (K : Kind J) (ds : List (Deal J)) (jobs : List (Option J)) → length (written_back K ds jobs) ≡ length jobs
length-written_back K [] jobs = refl
length-written_back K (d ∷ ds) jobs = length-written_back K ds (slice_set jobs d.task (Some (K.stepped d.before))) ∙ length-set jobs d.task (Some (K.stepped d.before))

-- one step of the loop over a row: the quanta so far, and those of the rest of the row

pub deal_next : {J : Type 0} (K : Kind J) (number slot : ℕ) (row : List ℕ) (jobs : List (Option J)) (i x : ℕ) (more old now all : List (Deal J)) →
    i < length row → x ≡ get_or row i 0 → deal_at K number slot x (slice_get jobs x) ≡ more → now ≡ old ++ more →
    old ++ deals K number slot (drop i row) jobs ≡ all → now ++ deals K number slot (drop (i + 1) row) jobs ≡ all
deal_next {J} K number slot row jobs i x more old now all within at dealt grown before =
    let split : drop i row ≡ x ∷ drop (i + 1) row = drop_more row i 0 within ∙ ap (λ n. n ∷ drop (i + 1) row) (sym at) in
    let rest = deals K number slot (drop (i + 1) row) jobs in
    ap (λ (ds : List (Deal J)). ds ++ rest) grown
    ∙ (append_assoc old more rest
    ∙ (ap (λ (ds : List (Deal J)). old ++ (ds ++ rest)) (sym dealt)
    ∙ (ap (λ r. old ++ deals K number slot r jobs) (sym split) ∙ before)))

pub deal_end : {J : Type 0} (K : Kind J) (number slot : ℕ) (row : List ℕ) (jobs : List (Option J)) (i : ℕ) (now all : List (Deal J)) →
    length row ≤ i → now ++ deals K number slot (drop i row) jobs ≡ all → now ≡ all
deal_end {J} K number slot row jobs i now all past before =
    sym (append-nil now) ∙ (ap (λ r. now ++ deals K number slot r jobs) (sym (drop_past i row past)) ∙ before)
