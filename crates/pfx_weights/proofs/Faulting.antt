-- The fault that tests find is the refusal.
use Rattle.std.specs.Prelude.{◌≡◌, ◌≢◌, ℕ, zero, suc, ◌+◌, ◌*◌, ◌^◌, ◌<◌, ◌≤◌, ◌==◌, ◌&&◌, nat_lt, nat_le, if◌then◌else◌, Bool, true, false, List, [], ◌∷◌, length, take, Option, Some, None, All, refl, slice_index_or}
use Rattle.std.specs.List.{list_all}
use Rattle.std.proofs.Common.{sym, ◌∙◌, ap, subst, arith, eq-eqb, inl, inr}
use Rattle.std.proofs.lemmas.Bool.{cond-true, cond-false, and_from, and_parts, cases_lt, lt-ltb, ltb-true, le-leb, leb-true, eqb-true, true≢false}
use Rattle.std.proofs.lemmas.Option.{none-some}
use Rattle.std.proofs.lemmas.List.{take_all}
use Rattle.std.proofs.lemmas.List.Elements.{All-take}
use Rattle.pfx_weights.specs.Sets.{FilledSet, IsWeight, IsTaskCount, IsWorkerCount, IsHyperperiod, Accepts, Refuses, FirstBadWeight, FirstTooLarge, IsOverload, filled, demand}
use Rattle.pfx_weights.specs.Tests.{hyper_of, is_weight, first_bad, long_or, first_long, named, overload_by, set_fault}
use Rattle.pfx_weights.specs.declared.faults.SetFault.{SetFault}
use Rattle.pfx_weights.specs.declared.faults.SetFault.TheVariants.{NoTasks, TooManyTasks, BadWorkers, BadWeight, HyperperiodTooLarge, Overload, NoMemory}
use Rattle.pfx_weights.proofs.Commons.{hyper_none}
use Rattle.pfx_weights.proofs.Refusals.{one_by, none_by}
use Rattle.pfx_weights.proofs.Tests.{weight_to, weight_from, all_from, hyper_is, hyper_from}

-- what tests of a list's places find

false_of : (a b : ℕ) → nat_lt a b ≡ false → b ≤ a
false_of a b h = elim (cases_lt a b) [
  | inl less ↦ absurd (true≢false (sym (lt-ltb a b less) ∙ h))
  | inr more ↦ more
]

-- the first weight that isn't one

record IsBad (tasks : List (ℕ × ℕ)) (from x : ℕ) : Type 0 where
  at : ℕ
  is : x ≡ from + at
  bad : FirstBadWeight tasks at

bad_next : (w : ℕ × ℕ) (tasks : List (ℕ × ℕ)) (from x : ℕ) → IsWeight w → IsBad tasks (from + 1) x → IsBad (w ∷ tasks) from x
bad_next w tasks from x good h = record {
  at = suc h.at;
  is = (let a = h.is in omega (arith, a));
  bad = record {
    within = (let a = h.bad.within in omega (arith, a));
    bad = h.bad.bad;
    before = good_then;
  };
}
  where
    good_then : All IsWeight (take (suc h.at) (w ∷ tasks))
    good_then zero d b = good
    good_then (suc k) d b = h.bad.before k d (omega (arith, b))

bad_by : (w : ℕ × ℕ) (tasks : List (ℕ × ℕ)) (from x : ℕ) → (first_bad tasks (from + 1) ≡ Some x → IsBad tasks (from + 1) x) → (b : Bool) → is_weight w ≡ b
    → first_bad (w ∷ tasks) from ≡ Some x → IsBad (w ∷ tasks) from x
bad_by w tasks from x more true is h = bad_next w tasks from x (weight_from w is) (more (sym (cond-true _ _ _ is) ∙ h))
bad_by w tasks from x more false is h = (let same : Some from ≡ Some x = sym (cond-false _ _ _ is) ∙ h in let at : from ≡ x = cc in record {
  at = 0;
  is = omega (arith, at);
  bad = record { within = omega arith; bad = λ good. true≢false (sym (weight_to w good) ∙ is); before = λ k d b. absurd (omega (arith, b)) };
})

bad_found : (tasks : List (ℕ × ℕ)) (from x : ℕ) → first_bad tasks from ≡ Some x → IsBad tasks from x
bad_found [] from x h = absurd (none-some x h)
bad_found (w ∷ tasks) from x h = bad_by w tasks from x (bad_found tasks (from + 1) x) (is_weight w) refl h

good_by : (w : ℕ × ℕ) (tasks : List (ℕ × ℕ)) (from : ℕ) → (first_bad tasks (from + 1) ≡ None → All IsWeight tasks) → (b : Bool) → is_weight w ≡ b
    → first_bad (w ∷ tasks) from ≡ None → All IsWeight (w ∷ tasks)
good_by w tasks from more true is h zero d b = weight_from w is
good_by w tasks from more true is h (suc k) d b = more (sym (cond-true _ _ _ is) ∙ h) k d (omega (arith, b))
good_by w tasks from more false is h k d b = absurd (let same : Some from ≡ None = sym (cond-false _ _ _ is) ∙ h in cc)

none_bad : (tasks : List (ℕ × ℕ)) (from : ℕ) → first_bad tasks from ≡ None → All IsWeight tasks
none_bad [] from h k d b = absurd (omega (arith, b))
none_bad (w ∷ tasks) from h k d b = good_by w tasks from (none_bad tasks (from + 1)) (is_weight w) refl h k d b

-- the first task with which the periods have no common multiple within the limit

abbrev Hyper : List (ℕ × ℕ) → ℕ → Type 0
Hyper tasks x = (l : ℕ) × IsHyperperiod (take x tasks) l × (l ≤ 2 ^ 20)

hyper_at : (tasks : List (ℕ × ℕ)) (x l : ℕ) → All IsWeight tasks → hyper_of (take x tasks) ≡ Some l → Hyper tasks x
hyper_at tasks x l good h = (let k = hyper_from (take x tasks) l (All-take IsWeight x tasks good) h in (l, k.0, k.1))

long_at : (tasks : List (ℕ × ℕ)) (x : ℕ) → All IsWeight tasks → x < length tasks → hyper_of (take (x + 1) tasks) ≡ None → Hyper tasks x → FirstTooLarge tasks x
long_at tasks x good within none before = record {
  within = within;
  above = λ l is. elim (cases_lt (2 ^ 20) l) [
    | inl above ↦ above
    | inr low ↦ absurd (none-some l (sym none ∙ hyper_is (take (x + 1) tasks) l (All-take IsWeight (x + 1) tasks good) is low))
  ];
  before = before;
}

long_by : (tasks : List (ℕ × ℕ)) (n x y : ℕ) → All IsWeight tasks → x < length tasks → Hyper tasks x → (Hyper tasks (x + 1) → first_long tasks n (x + 1) ≡ Some y → FirstTooLarge tasks y)
    → (o : Option ℕ) → hyper_of (take (x + 1) tasks) ≡ o → long_or o x (first_long tasks n (x + 1)) ≡ Some y → FirstTooLarge tasks y
long_by tasks n x y good within before more None is h = (let at : x ≡ y = cc in subst (FirstTooLarge tasks) at (long_at tasks x good within is before))
long_by tasks n x y good within before more (Some l) is h = more (hyper_at tasks (x + 1) l good is) h

long_found : (tasks : List (ℕ × ℕ)) (n x y : ℕ) → All IsWeight tasks → x + n ≡ length tasks → Hyper tasks x → first_long tasks n x ≡ Some y → FirstTooLarge tasks y
long_found tasks zero x y good all before h = absurd (none-some y h)
long_found tasks (suc n) x y good all before h =
    long_by tasks n x y good (omega (arith, all)) before (λ next e. long_found tasks n (x + 1) y good (omega (arith, all)) next e) (hyper_of (take (x + 1) tasks)) refl h

short_by : (tasks : List (ℕ × ℕ)) (n x : ℕ) → All IsWeight tasks → (Hyper tasks (x + 1) → first_long tasks n (x + 1) ≡ None → Hyper tasks (x + 1 + n))
    → (o : Option ℕ) → hyper_of (take (x + 1) tasks) ≡ o → long_or o x (first_long tasks n (x + 1)) ≡ None → Hyper tasks (x + 1 + n)
short_by tasks n x good more None is h = absurd (none-some x (sym h))
short_by tasks n x good more (Some l) is h = more (hyper_at tasks (x + 1) l good is) h

none_long : (tasks : List (ℕ × ℕ)) (n x : ℕ) → All IsWeight tasks → Hyper tasks x → first_long tasks n x ≡ None → Hyper tasks (x + n)
none_long tasks zero x good before h = subst (Hyper tasks) (omega arith) before
none_long tasks (suc n) x good before h =
    subst (Hyper tasks) (omega arith) (short_by tasks n x good (λ next e. none_long tasks n (x + 1) good next e) (hyper_of (take (x + 1) tasks)) refl h)

none_before : (tasks : List (ℕ × ℕ)) → Hyper tasks 0
none_before tasks = (1, hyper_none tasks, omega arith)

-- all tests, one after the other

-- what the fault says of the set, or that it is accepted
abbrev Says : ℕ → List (ℕ × ℕ) → Option SetFault → Type 0
Says m tasks None = (s : FilledSet) × Accepts m tasks s
Says m tasks (Some f) = (f ≢ NoMemory) × Refuses m tasks f

says_fit : (m : ℕ) (tasks : List (ℕ × ℕ)) (l : ℕ) → IsTaskCount (length tasks) → IsWorkerCount m → All IsWeight tasks → IsHyperperiod tasks l → l ≤ 2 ^ 20
    → Says m tasks (if nat_le (demand l tasks) (m * l) then None else Some Overload)
says_fit m tasks l count workers good hyper within = by (nat_le (demand l tasks) (m * l)) refl
  where
    by : (b : Bool) → nat_le (demand l tasks) (m * l) ≡ b → Says m tasks (if b then None else Some Overload)
    by true is = (filled m tasks l, record { count = count; workers = workers; weights = good; hyper = hyper; within = within; fits = leb-true _ _ is; is = refl })
    by false is = (
      (λ same. cc),
      (
        count,
        workers,
        good,
        record {
          l = l;
          hyper = hyper;
          within = within;
          over = elim (cases_lt (m * l) (demand l tasks)) [
            | inl over ↦ over
            | inr low ↦ absurd (true≢false (sym (le-leb _ _ low) ∙ is))
          ];
        },
      ),
    )

says_whole : (m : ℕ) (tasks : List (ℕ × ℕ)) → IsTaskCount (length tasks) → IsWorkerCount m → All IsWeight tasks → Hyper tasks (length tasks)
    → Says m tasks (overload_by m tasks (hyper_of tasks))
says_whole m tasks count workers good h =
    let all : take (length tasks) tasks ≡ tasks = take_all (length tasks) tasks (omega arith) in
    let hyper : IsHyperperiod tasks h.0 = subst (λ ts. IsHyperperiod ts h.0) all h.1 in
    subst (λ o. Says m tasks (overload_by m tasks o)) (sym (hyper_is tasks h.0 good hyper h.2)) (says_fit m tasks h.0 count workers good hyper h.2)

says_long : (m : ℕ) (tasks : List (ℕ × ℕ)) → IsTaskCount (length tasks) → IsWorkerCount m → All IsWeight tasks → (o : Option ℕ) → first_long tasks (length tasks) 0 ≡ o
    → Says m tasks (named HyperperiodTooLarge o (overload_by m tasks (hyper_of tasks)))
says_long m tasks count workers good (Some x) is = ((λ same. cc), (count, workers, good, long_found tasks (length tasks) 0 x good (omega arith) (none_before tasks) is))
says_long m tasks count workers good None is =
    says_whole m tasks count workers good (subst (Hyper tasks) (omega arith) (none_long tasks (length tasks) 0 good (none_before tasks) is))

says_bad : (m : ℕ) (tasks : List (ℕ × ℕ)) → IsTaskCount (length tasks) → IsWorkerCount m → (o : Option ℕ) → first_bad tasks 0 ≡ o
    → Says m tasks (named BadWeight o (named HyperperiodTooLarge (first_long tasks (length tasks) 0) (overload_by m tasks (hyper_of tasks))))
says_bad m tasks count workers (Some x) is =
    (let b = bad_found tasks 0 x is in let at : b.at ≡ x = (let k = b.is in omega (arith, k)) in ((λ same. cc), (count, workers, subst (FirstBadWeight tasks) at b.bad)))
says_bad m tasks count workers None is = says_long m tasks count workers (none_bad tasks 0 is) (first_long tasks (length tasks) 0) refl

says_count : (m : ℕ) (tasks : List (ℕ × ℕ)) → IsTaskCount (length tasks) → (b : Bool) → (nat_lt 0 m && nat_le m 64) ≡ b
    → Says m tasks (if b then named BadWeight (first_bad tasks 0) (named HyperperiodTooLarge (first_long tasks (length tasks) 0) (overload_by m tasks (hyper_of tasks))) else Some BadWorkers)
says_count m tasks count true is = (let w = and_parts _ _ is in says_bad m tasks count (ltb-true 0 m w.0, leb-true m 64 w.1) (first_bad tasks 0) refl)
says_count m tasks count false is = ((λ same. cc), (count, (λ workers. true≢false (sym (and_from _ _ (lt-ltb 0 m workers.0) (le-leb m 64 workers.1)) ∙ is))))

says_many : (m : ℕ) (tasks : List (ℕ × ℕ)) → 0 < length tasks → (b : Bool) → nat_lt 1024 (length tasks) ≡ b
    → Says m tasks (if b then Some TooManyTasks else (if nat_lt 0 m && nat_le m 64 then named BadWeight (first_bad tasks 0) (named HyperperiodTooLarge (first_long tasks (length tasks) 0) (overload_by m tasks (hyper_of tasks))) else Some BadWorkers))
says_many m tasks some true is = ((λ same. cc), ltb-true 1024 (length tasks) is)
says_many m tasks some false is = says_count m tasks (some, false_of 1024 (length tasks) is) (nat_lt 0 m && nat_le m 64) refl

says_none : (m : ℕ) (tasks : List (ℕ × ℕ)) (b : Bool) → (length tasks == 0) ≡ b
    → Says m tasks (if b then Some NoTasks else (if nat_lt 1024 (length tasks) then Some TooManyTasks else (if nat_lt 0 m && nat_le m 64 then named BadWeight (first_bad tasks 0) (named HyperperiodTooLarge (first_long tasks (length tasks) 0) (overload_by m tasks (hyper_of tasks))) else Some BadWorkers)))
says_none m tasks true is = ((λ same. cc), eqb-true (length tasks) 0 is)
says_none m tasks false is = says_many m tasks (elim (cases_lt 0 (length tasks)) [
  | inl some ↦ some
  | inr none ↦ absurd (let zero_is : length tasks ≡ 0 = omega (arith, none) in true≢false (sym (eq-eqb (length tasks) 0 zero_is) ∙ is))
]) (nat_lt 1024 (length tasks)) refl

says : (m : ℕ) (tasks : List (ℕ × ℕ)) → Says m tasks (set_fault m tasks)
unfolding set_fault
says m tasks = says_none m tasks (length tasks == 0) refl

pub fault_of : (m : ℕ) (tasks : List (ℕ × ℕ)) (f : SetFault) → set_fault m tasks ≡ Some f → (f ≢ NoMemory) × Refuses m tasks f
fault_of m tasks f is = subst (Says m tasks) is (says m tasks)

pub none_accepts : (m : ℕ) (tasks : List (ℕ × ℕ)) → set_fault m tasks ≡ None → (s : FilledSet) × Accepts m tasks s
none_accepts m tasks is = subst (Says m tasks) is (says m tasks)

pub fault_from : (m : ℕ) (tasks : List (ℕ × ℕ)) (f : SetFault) → f ≢ NoMemory → Refuses m tasks f → set_fault m tasks ≡ Some f
fault_from m tasks f other h = by (set_fault m tasks) refl
  where
    by : (o : Option SetFault) → set_fault m tasks ≡ o → set_fault m tasks ≡ Some f
    by None is = absurd (let a = none_accepts m tasks is in other (none_by m tasks a.0 f a.1 h))
    by (Some g) is = is ∙ ap Some (let k = fault_of m tasks g is in one_by m tasks g f k.0 other k.1 h)

pub no_memory : (m : ℕ) (tasks : List (ℕ × ℕ)) → set_fault m tasks ≢ Some NoMemory
no_memory m tasks is = (fault_of m tasks NoMemory is).0 refl

pub accepts_none : (m : ℕ) (tasks : List (ℕ × ℕ)) → ((s : FilledSet) × Accepts m tasks s) → set_fault m tasks ≡ None
accepts_none m tasks a = by (set_fault m tasks) refl
  where
    by : (o : Option SetFault) → set_fault m tasks ≡ o → set_fault m tasks ≡ None
    by None is = is
    by (Some g) is = absurd (let k = fault_of m tasks g is in k.0 (none_by m tasks a.0 g a.1 k.1))
