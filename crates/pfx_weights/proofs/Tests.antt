-- The function behind the acceptance of task sets.
use Rattle.std.specs.Prelude.{◌≡◌, ◌≢◌, ℕ, zero, suc, ◌+◌, ◌*◌, ◌%◌, ◌^◌, ◌<◌, ◌≤◌, ◌==◌, nat_le, if◌then◌else◌, Bool, true, false, List, [], ◌∷◌, length, take, Option, Some, None, All, refl}
use Rattle.std.specs.List.{list_all}
use Rattle.std.proofs.Common.{sym, ◌∙◌, ap, subst, arith, eq-eqb, get_or, inl, inr}
use Rattle.std.proofs.lemmas.Bool.{cond-true, cond-false, and_from, and_parts, cases_lt, lt-ltb, ltb-true, le-leb, leb-true, eqb-true, true≢false}
use Rattle.std.proofs.Math.Nat.{mod-lt, mod-eq_of_lt}
use Rattle.std.proofs.lemmas.Option.{none-some}
use Rattle.std.proofs.lemmas.List.Elements.{All-take}
use Rattle.pfx_weights.specs.Multiples.{IsMultiple}
use Rattle.pfx_weights.specs.Sets.{FilledSet, IsWeight, IsCommonMultiple, IsHyperperiod, Accepts, Refuses, filled, demand}
use Rattle.pfx_weights.proofs.Commons.{multiple_rest}
use Rattle.pfx_weights.specs.declared.faults.SetFault.{SetFault}
use Rattle.pfx_weights.specs.declared.faults.SetFault.TheVariants.{NoTasks, TooManyTasks, BadWorkers, BadWeight, HyperperiodTooLarge, Overload, NoMemory}
use Rattle.pfx_weights.specs.Tests.{is_common, first_common, hyper_of, is_weight, set_by, set_of}

pub weight_to : (w : ℕ × ℕ) → IsWeight w → is_weight w ≡ true
weight_to w h = and_from _ _ (lt-ltb 0 w.0 h.0) (lt-ltb w.0 w.1 h.1)

pub weight_from : (w : ℕ × ℕ) → is_weight w ≡ true → IsWeight w
weight_from w h = (ltb-true 0 w.0 (and_parts _ _ h).0, ltb-true w.0 w.1 (and_parts _ _ h).1)

-- a test of each element, as a fact of each

pub all_from : {X : Type 0} (p : X → Bool) (P : X → Type 0) → ((x : X) → p x ≡ true → P x) → (xs : List X) → list_all p xs ≡ true → All P xs
all_from p P f [] h k d b = absurd (omega arith)
all_from p P f (x ∷ xs) h zero d b = f x (and_parts (p x) (list_all p xs) h).0
all_from p P f (x ∷ xs) h (suc k) d b = all_from p P f xs (and_parts (p x) (list_all p xs) h).1 k d (omega arith)

all_to : {X : Type 0} (p : X → Bool) (P : X → Type 0) → ((x : X) → P x → p x ≡ true) → (xs : List X) → All P xs → list_all p xs ≡ true
all_to p P f [] h = refl
all_to p P f (x ∷ xs) h = and_from (p x) (list_all p xs) (f x (h 0 x (omega arith))) (all_to p P f xs (λ k d b. h (suc k) d (omega arith)))

common_from : (tasks : List (ℕ × ℕ)) (k : ℕ) → is_common tasks k ≡ true → IsCommonMultiple tasks k
common_from tasks k h = all_from (λ w. k % w.1 == 0) (λ w. IsMultiple w.1 k) (λ w e. eqb-true (k % w.1) 0 e) tasks h

common_to : (tasks : List (ℕ × ℕ)) (k : ℕ) → IsCommonMultiple tasks k → is_common tasks k ≡ true
common_to tasks k h = all_to (λ w. k % w.1 == 0) (λ w. IsMultiple w.1 k) (λ w e. eq-eqb (k % w.1) 0 e) tasks h

-- the first common multiple

pub record IsFirst (tasks : List (ℕ × ℕ)) (from l : ℕ) : Type 0 where
  pub common : IsCommonMultiple tasks l
  pub late : from ≤ l
  pub before : (k : ℕ) → from ≤ k → k < l → IsCommonMultiple tasks k → ⊥

-- one is found if there is one, and none is before it
abbrev Found : List (ℕ × ℕ) → ℕ → ℕ → ℕ → Type 0
Found tasks n from l = (k : ℕ) × (first_common tasks n from ≡ Some k) × IsFirst tasks from k × (k ≤ l)

finds_by : (tasks : List (ℕ × ℕ)) (n from l : ℕ) → IsCommonMultiple tasks l → from ≤ l → (from + 1 ≤ l → Found tasks n (from + 1) l) → (b : Bool) → is_common tasks from ≡ b → Found tasks (suc n) from l
finds_by tasks n from l common late more true is =
    (from, cond-true _ _ _ is, record { common = common_from tasks from is; late = omega arith; before = λ k a b c. absurd (omega arith) }, late)
finds_by tasks n from l common late more false is =
    let not_here : IsCommonMultiple tasks from → ⊥ = λ c. true≢false (sym (common_to tasks from c) ∙ is) in
    let later : from + 1 ≤ l = elim (cases_lt from l) [
      | inl less ↦ omega arith
      | inr above ↦ absurd (let same : l ≡ from = omega arith in not_here (subst (IsCommonMultiple tasks) same common))
    ] in
    let rest = more later in (
      rest.0,
      cond-false _ _ _ is ∙ rest.1,
      record {
        common = rest.2.common;
        late = (let a = rest.2.late in omega arith);
        before = λ k a b c. elim (cases_lt from k) [
          | inl less ↦ rest.2.before k (omega arith) b c
          | inr above ↦ (let same : k ≡ from = omega arith in not_here (subst (IsCommonMultiple tasks) same c))
        ];
      },
      rest.3,
    )

finds : (tasks : List (ℕ × ℕ)) (n from l : ℕ) → IsCommonMultiple tasks l → from ≤ l → l < from + n → Found tasks n from l
finds tasks zero from l common late within = absurd (omega arith)
finds tasks (suc n) from l common late within =
    finds_by tasks n from l common late (λ later. finds tasks n (from + 1) l common later (omega arith)) (is_common tasks from) refl

-- what is found is the first
found_by : (tasks : List (ℕ × ℕ)) (n from l : ℕ) → ((k : ℕ) → first_common tasks n (from + 1) ≡ Some k → IsFirst tasks (from + 1) k × (k < from + 1 + n))
    → (b : Bool) → is_common tasks from ≡ b → first_common tasks (suc n) from ≡ Some l → IsFirst tasks from l × (l < from + suc n)
found_by tasks n from l more true is h =
    let same : from ≡ l = (let here : Some from ≡ Some l = sym (cond-true _ _ _ is) ∙ h in cc) in (
      record {
        common = subst (IsCommonMultiple tasks) same (common_from tasks from is);
        late = omega arith;
        before = λ k a b c. absurd (omega arith);
      },
      omega arith,
    )
found_by tasks n from l more false is h =
    let not_here : IsCommonMultiple tasks from → ⊥ = λ c. true≢false (sym (common_to tasks from c) ∙ is) in
    let rest = more l (sym (cond-false _ _ _ is) ∙ h) in (
      record {
        common = rest.0.common;
        late = (let a = rest.0.late in omega arith);
        before = λ k a b c. elim (cases_lt from k) [
          | inl less ↦ rest.0.before k (omega arith) b c
          | inr above ↦ (let same : k ≡ from = omega arith in not_here (subst (IsCommonMultiple tasks) same c))
        ];
      },
      (let a = rest.1 in omega arith),
    )

found_first : (tasks : List (ℕ × ℕ)) (n from l : ℕ) → first_common tasks n from ≡ Some l → IsFirst tasks from l × (l < from + n)
found_first tasks zero from l h = absurd (none-some l h)
found_first tasks (suc n) from l h = found_by tasks n from l (λ k e. found_first tasks n (from + 1) k e) (is_common tasks from) refl h

-- the first positive common multiple is the hyperperiod: what another leaves over is one too
first_is_hyper : (tasks : List (ℕ × ℕ)) (l : ℕ) → All IsWeight tasks → IsFirst tasks 1 l → IsHyperperiod tasks l
first_is_hyper tasks l good h = record {
  positive = (let a = h.late in omega arith);
  common = h.common;
  least = λ k common.
      let small : k % l < l = mod-lt k (let a = h.late in omega arith) in
      elim (cases_lt 0 (k % l)) [
        | inl more ↦ absurd (h.before (k % l) (omega arith) small (λ x d b.
            let w = get_or tasks x d in
            let positive : IsWeight w = good x d b in
            multiple_rest w.1 l k (omega arith) (h.common x d b) (common x d b)))
        | inr none ↦ omega arith
      ];
}

same_hyper : (tasks : List (ℕ × ℕ)) (l k : ℕ) → IsHyperperiod tasks l → IsHyperperiod tasks k → l ≤ k
same_hyper tasks l k h j =
    let m : IsMultiple l k = h.least k j.common in
    elim (cases_lt k l) [
      | inl less ↦ absurd (let whole : k % l ≡ k = mod-eq_of_lt less in let a = j.positive in omega arith)
      | inr more ↦ more
    ]

-- a hyperperiod within the limit is found
hyper_found : (tasks : List (ℕ × ℕ)) (n l : ℕ) → All IsWeight tasks → IsHyperperiod tasks l → l ≤ n → first_common tasks n 1 ≡ Some l
hyper_found tasks n l good h within =
    let a = h.positive in
    let found = finds tasks n 1 l h.common (omega arith) (omega arith) in
    let least = same_hyper tasks l found.0 h (first_is_hyper tasks found.0 good found.2) in
    let same : found.0 ≡ l = (let b = found.3 in omega arith) in
    found.1 ∙ ap Some same

pub hyper_is : (tasks : List (ℕ × ℕ)) (l : ℕ) → All IsWeight tasks → IsHyperperiod tasks l → l ≤ 2 ^ 20 → hyper_of tasks ≡ Some l
unfolding hyper_of
hyper_is tasks l good h within = hyper_found tasks (2 ^ 20) l good h within

-- the function and the relation

pub sets_ok : (m : ℕ) (tasks : List (ℕ × ℕ)) (s : FilledSet) → Accepts m tasks s → set_of m tasks ≡ Some s
unfolding set_of
sets_ok m tasks s h =
    let count = and_from _ _ (lt-ltb 0 (length tasks) h.count.0) (le-leb (length tasks) 1024 h.count.1) in
    let workers = and_from _ _ (lt-ltb 0 m h.workers.0) (le-leb m 64 h.workers.1) in
    let weights = all_to is_weight IsWeight weight_to tasks h.weights in
    let hyper = hyper_is tasks s.hyper h.weights h.hyper h.within in
    cond-true _ _ _ (and_from _ _ count (and_from _ _ workers weights))
    ∙ (ap (set_by m tasks) hyper ∙ (cond-true _ _ _ (le-leb _ _ h.fits) ∙ ap Some (sym h.is)))

-- a set is one that is accepted
set_by_from : (m : ℕ) (tasks : List (ℕ × ℕ)) (s : FilledSet) (o : Option ℕ) → set_by m tasks o ≡ Some s → (l : ℕ) × (o ≡ Some l) × (demand l tasks ≤ m * l) × (s ≡ filled m tasks l)
set_by_from m tasks s None h = absurd (none-some s h)
set_by_from m tasks s (Some l) h = fitting (nat_le (demand l tasks) (m * l)) refl h
  where
    fitting : (b : Bool) → nat_le (demand l tasks) (m * l) ≡ b → (if b then Some (filled m tasks l) else None) ≡ Some s → (k : ℕ) × (Some l ≡ Some k) × (demand k tasks ≤ m * k) × (s ≡ filled m tasks k)
    fitting true is e = (l, refl, leb-true _ _ is, (let same : filled m tasks l ≡ s = cc in sym same))
    fitting false is e = absurd (none-some s e)

guard_by : {A : Type 0} (b : Bool) (o : Option A) (x : A) → (if b then o else None) ≡ Some x → (b ≡ true) × (o ≡ Some x)
guard_by true o x h = (refl, h)
guard_by false o x h = absurd (none-some x h)

pub hyper_from : (tasks : List (ℕ × ℕ)) (l : ℕ) → All IsWeight tasks → hyper_of tasks ≡ Some l → IsHyperperiod tasks l × (l ≤ 2 ^ 20)
unfolding hyper_of
hyper_from tasks l good h =
    let first = found_first tasks (2 ^ 20) 1 l h in
    (first_is_hyper tasks l good first.0, (let a = first.1 in omega arith))

pub sets_from : (m : ℕ) (tasks : List (ℕ × ℕ)) (s : FilledSet) → set_of m tasks ≡ Some s → Accepts m tasks s
unfolding set_of
sets_from m tasks s h =
    let parts = guard_by _ _ s h in
    let tests = and_parts _ _ parts.0 in
    let count = and_parts _ _ tests.0 in
    let others = and_parts _ _ tests.1 in
    let workers = and_parts _ _ others.0 in
    let good = all_from is_weight IsWeight weight_from tasks others.1 in
    let by = set_by_from m tasks s (hyper_of tasks) parts.1 in
    let hyper = hyper_from tasks by.0 good by.1 in
    let same : by.0 ≡ s.hyper = sym (ap (λ (t : FilledSet). t.hyper) by.3) in
    record {
      count = (ltb-true _ _ count.0, leb-true _ _ count.1);
      workers = (ltb-true _ _ workers.0, leb-true _ _ workers.1);
      weights = good;
      hyper = subst (IsHyperperiod tasks) same hyper.0;
      within = subst (λ l. l ≤ 2 ^ 20) same hyper.1;
      fits = subst (λ l. demand l tasks ≤ m * l) same by.2;
      is = by.3 ∙ ap (filled m tasks) same;
    }

-- a fault's task set isn't one

-- a common multiple of all tasks is one of the first of them, so these have a hyperperiod within it
prefix_hyper : (tasks : List (ℕ × ℕ)) (n x l : ℕ) → All IsWeight tasks → IsCommonMultiple tasks l → 0 < l → l ≤ n → (k : ℕ) × IsHyperperiod (take x tasks) k × (k ≤ n)
prefix_hyper tasks n x l good common positive within =
    let found = finds (take x tasks) n 1 l (All-take (λ w. IsMultiple w.1 l) x tasks common) (omega arith) (omega arith) in
    (found.0, first_is_hyper (take x tasks) found.0 (All-take IsWeight x tasks good) found.2, (let a = found.3 in omega arith))

refused_not : (m : ℕ) (tasks : List (ℕ × ℕ)) (s : FilledSet) (f : SetFault) → f ≢ NoMemory → Refuses m tasks f → Accepts m tasks s → ⊥
refused_not m tasks s NoTasks other h a = (let c = a.count.0 in omega arith)
refused_not m tasks s TooManyTasks other h a = (let c = a.count.1 in omega arith)
refused_not m tasks s BadWorkers other h a = h.1 a.workers
refused_not m tasks s (BadWeight x) other h a = h.2.bad (a.weights x (0, 0) h.2.within)
refused_not m tasks s (HyperperiodTooLarge x) other h a =
    let prefix = prefix_hyper tasks (2 ^ 20) (x + 1) s.hyper a.weights a.hyper.common a.hyper.positive a.within in
    let above = h.3.above prefix.0 prefix.1 in
    let within = prefix.2 in
    omega arith
refused_not m tasks s Overload other h a =
    let over = h.3 in
    let same : over.l ≡ s.hyper = (let up = same_hyper tasks over.l s.hyper over.hyper a.hyper in let down = same_hyper tasks s.hyper over.l a.hyper over.hyper in omega arith) in
    let more : m * s.hyper < demand s.hyper tasks = subst (λ l. m * l < demand l tasks) same over.over in
    let fits = a.fits in
    omega arith
refused_not m tasks s NoMemory other h a = other refl

pub sets_refused : (m : ℕ) (tasks : List (ℕ × ℕ)) (f : SetFault) → f ≢ NoMemory → Refuses m tasks f → set_of m tasks ≡ None
sets_refused m tasks f other h = by (set_of m tasks) refl
  where
    by : (o : Option FilledSet) → set_of m tasks ≡ o → set_of m tasks ≡ None
    by None e = e
    by (Some s) e = absurd (refused_not m tasks s f other h (sets_from m tasks s e))
