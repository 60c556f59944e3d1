-- No two refusals of a set hold together.
use Rattle.std.specs.Prelude.{◌≡◌, ◌≢◌, ℕ, ◌+◌, ◌*◌, ◌<◌, ◌≤◌, ◌^◌, ◌%◌, ◌⊎◌, List, length, take, All, refl}
use Rattle.std.proofs.Common.{zero, suc, get_or, subst, ap, sym, ◌∙◌, arith, inl, inr}
use Rattle.std.proofs.lemmas.Bool.{cases_lt, cases_eq}
use Rattle.std.proofs.Math.Nat.{mod-eq_of_lt}
use Rattle.std.proofs.lemmas.List.{length-take, take-take, take_all, get_or-take}
use Rattle.std.proofs.lemmas.List.Elements.{All-take}
use Rattle.pfx_weights.specs.Multiples.{IsMultiple}
use Rattle.pfx_weights.specs.Sets.{IsWeight, IsCommonMultiple, IsHyperperiod, IsTaskCount, FilledSet, Accepts, FirstBadWeight, FirstTooLarge, Refuses, demand}
use Rattle.pfx_weights.specs.declared.faults.SetFault.{SetFault}
use Rattle.pfx_weights.specs.declared.faults.SetFault.TheVariants.{NoTasks, TooManyTasks, BadWorkers, BadWeight, HyperperiodTooLarge, Overload, NoMemory}
use Rattle.pfx_weights.proofs.Commons.{common_before, common_at, hyper_more}

-- ---- counts and weights

no_tasks : (ts : List (ℕ × ℕ)) → length ts ≡ 0 → IsTaskCount (length ts) → ⊥
no_tasks ts none count = let some = count.0 in omega (arith, none, some)

too_many : (ts : List (ℕ × ℕ)) → 1024 < length ts → IsTaskCount (length ts) → ⊥
too_many ts many count = let most = count.1 in omega (arith, many, most)

bad_among : (ts : List (ℕ × ℕ)) (x : ℕ) → FirstBadWeight ts x → All IsWeight ts → ⊥
bad_among ts x h good = h.bad (good x (0, 0) h.within)

bad_before : (ts : List (ℕ × ℕ)) (x y : ℕ) → FirstBadWeight ts x → FirstBadWeight ts y → x < y → ⊥
bad_before ts x y h k less =
    let P : ℕ × ℕ → Type 0 = λ w. IsWeight w in
    let e : get_or (take y ts) x (0, 0) ≡ get_or ts x (0, 0) = get_or-take y ts x (0, 0) less in
    let within = k.within in
    let short : x < length (take y ts) = simp length-take (omega (arith, less, within)) in
    h.bad (subst P e (k.before x (0, 0) short))

same_bad : (ts : List (ℕ × ℕ)) (x y : ℕ) → FirstBadWeight ts x → FirstBadWeight ts y → x ≡ y
same_bad ts x y h k = elim (cases_lt x y) [
  | inl less ↦ absurd (bad_before ts x y h k less)
  | inr more ↦ (elim (cases_lt y x) [ inl less ↦ absurd (bad_before ts y x k h less) | inr le ↦ omega (arith, more, le) ])
]

-- ---- the hyperperiod

-- the least common multiple of l and p up to n, if there is one
record Least (l p n : ℕ) : Type 0 where
  c : ℕ
  positive : 0 < c
  within : c ≤ n
  of_l : IsMultiple l c
  of_p : IsMultiple p c
  least : (k : ℕ) → 0 < k → IsMultiple l k → IsMultiple p k → c ≤ k

abbrev NoneTo : ℕ → ℕ → ℕ → Type 0
NoneTo l p n = (k : ℕ) → 0 < k → k ≤ n → IsMultiple l k → IsMultiple p k → ⊥

search_up : (l p n : ℕ) → Least l p n ⊎ NoneTo l p n
search_up l p zero = inr (λ k some le of_l of_p. omega (arith, some, le))
search_up l p (suc n) = elim (search_up l p n) [
  | inl found ↦ inl (record { c = found.c; positive = found.positive; within = (let w = found.within in omega (arith, w)); of_l = found.of_l; of_p = found.of_p; least = found.least })
  | inr none ↦ (elim (cases_eq (suc n % l) 0) [
    | inl of_l ↦ (elim (cases_eq (suc n % p) 0) [
      | inl of_p ↦ inl (record { c = suc n; positive = omega arith; within = omega arith; of_l = of_l; of_p = of_p; least = least none })
      | inr not_p ↦ inr (λ k some le kl kp. past none k (λ e. not_p (ap (λ v. v % p) (sym e) ∙ kp)) some le kl kp)
    ])
    | inr not_l ↦ inr (λ k some le kl kp. past none k (λ e. not_l (ap (λ v. v % l) (sym e) ∙ kl)) some le kl kp)
  ])
]
  where
    least : NoneTo l p n → (k : ℕ) → 0 < k → IsMultiple l k → IsMultiple p k → suc n ≤ k
    least none k some kl kp = elim (cases_lt k (suc n)) [
      | inl less ↦ absurd (none k some (omega (arith, less)) kl kp)
      | inr more ↦ more
    ]

    past : NoneTo l p n → (k : ℕ) → (k ≡ suc n → ⊥) → 0 < k → k ≤ suc n → IsMultiple l k → IsMultiple p k → ⊥
    past none k ne some le kl kp = elim (cases_lt k (suc n)) [
      | inl less ↦ none k some (omega (arith, less)) kl kp
      | inr more ↦ ne (omega (arith, le, more))
    ]

-- a common multiple of more tasks is one of fewer
common_front : (ts : List (ℕ × ℕ)) (i n k : ℕ) → i ≤ n → IsCommonMultiple (take n ts) k → IsCommonMultiple (take i ts) k
common_front ts i n k le h =
    let P : List (ℕ × ℕ) → Type 0 = λ l. IsCommonMultiple l k in
    subst P (take-take i n ts le) (All-take (λ v. IsMultiple v.1 k) i (take n ts) h)

-- if a task takes the hyperperiod past the limit, that of no longer front is within it
too_large : (ts : List (ℕ × ℕ)) (x n l : ℕ) → All IsWeight ts → FirstTooLarge ts x → x < n → IsHyperperiod (take n ts) l → l ≤ 2 ^ 20 → ⊥
too_large ts x n l good h less hyper within =
    let front = h.before.0 in
    let front_hyper = h.before.1 in
    let common : IsCommonMultiple (take (x + 1) ts) l = common_front ts (x + 1) n l (omega (arith, less)) hyper.common in
    let of_front = front_hyper.least l (common_before ts x l common) in
    let of_p = common_at ts x l h.within common in
    elim (search_up front (get_or ts x (0, 0)).1 l) [
      | inl found ↦
          (let more : IsHyperperiod (take (x + 1) ts) found.c = hyper_more ts x front found.c good h.within front_hyper found.positive found.of_l found.of_p found.least in
          let above = h.above found.c more in
          let low = found.within in
          omega (arith, above, low, within))
      | inr none ↦ none l hyper.positive (omega arith) of_front of_p
    ]

same_large : (ts : List (ℕ × ℕ)) (x y : ℕ) → All IsWeight ts → FirstTooLarge ts x → FirstTooLarge ts y → x ≡ y
same_large ts x y good h k = elim (cases_lt x y) [
  | inl less ↦ absurd (too_large ts x y k.before.0 good h less k.before.1 k.before.2)
  | inr more ↦ (elim (cases_lt y x) [ inl less ↦ absurd (too_large ts y x h.before.0 good k less h.before.1 h.before.2) | inr le ↦ omega (arith, more, le) ])
]

too_large_of : (ts : List (ℕ × ℕ)) (x l : ℕ) → All IsWeight ts → FirstTooLarge ts x → IsHyperperiod ts l → l ≤ 2 ^ 20 → ⊥
too_large_of ts x l good h hyper within =
    let P : List (ℕ × ℕ) → Type 0 = λ all. IsHyperperiod all l in
    too_large ts x (length ts) l good h h.within (subst P (sym (take_all (length ts) ts (omega arith))) hyper) within

-- a set has one hyperperiod
at_least : (p k : ℕ) → 0 < k → IsMultiple p k → p ≤ k
at_least p k some h = elim (cases_lt k p) [
  | inl less ↦ absurd (let same : k % p ≡ k = mod-eq_of_lt less in omega (arith, same, h, some))
  | inr more ↦ more
]

one_hyper : (ts : List (ℕ × ℕ)) (l k : ℕ) → IsHyperperiod ts l → IsHyperperiod ts k → l ≡ k
one_hyper ts l k h g =
    let up = at_least l k g.positive (h.least k g.common) in
    let down = at_least k l h.positive (g.least l h.common) in
    omega (arith, up, down)

-- ---- refusals

pub one_by : (m : ℕ) (ts : List (ℕ × ℕ)) (f g : SetFault) → f ≢ NoMemory → g ≢ NoMemory → Refuses m ts f → Refuses m ts g → f ≡ g
one_by m ts NoMemory g f_known g_known h k = absurd (f_known refl)
one_by m ts f NoMemory f_known g_known h k = absurd (g_known refl)
one_by m ts NoTasks NoTasks f_known g_known h k = refl
one_by m ts NoTasks TooManyTasks f_known g_known h k = absurd (omega (arith, h, k))
one_by m ts NoTasks BadWorkers f_known g_known h k = absurd (no_tasks ts h k.0)
one_by m ts NoTasks (BadWeight y) f_known g_known h k = absurd (no_tasks ts h k.0)
one_by m ts NoTasks (HyperperiodTooLarge y) f_known g_known h k = absurd (no_tasks ts h k.0)
one_by m ts NoTasks Overload f_known g_known h k = absurd (no_tasks ts h k.0)
one_by m ts TooManyTasks NoTasks f_known g_known h k = absurd (omega (arith, k, h))
one_by m ts TooManyTasks TooManyTasks f_known g_known h k = refl
one_by m ts TooManyTasks BadWorkers f_known g_known h k = absurd (too_many ts h k.0)
one_by m ts TooManyTasks (BadWeight y) f_known g_known h k = absurd (too_many ts h k.0)
one_by m ts TooManyTasks (HyperperiodTooLarge y) f_known g_known h k = absurd (too_many ts h k.0)
one_by m ts TooManyTasks Overload f_known g_known h k = absurd (too_many ts h k.0)
one_by m ts BadWorkers NoTasks f_known g_known h k = absurd (no_tasks ts k h.0)
one_by m ts BadWorkers TooManyTasks f_known g_known h k = absurd (too_many ts k h.0)
one_by m ts BadWorkers BadWorkers f_known g_known h k = refl
one_by m ts BadWorkers (BadWeight y) f_known g_known h k = absurd (h.1 k.1)
one_by m ts BadWorkers (HyperperiodTooLarge y) f_known g_known h k = absurd (h.1 k.1)
one_by m ts BadWorkers Overload f_known g_known h k = absurd (h.1 k.1)
one_by m ts (BadWeight x) NoTasks f_known g_known h k = absurd (no_tasks ts k h.0)
one_by m ts (BadWeight x) TooManyTasks f_known g_known h k = absurd (too_many ts k h.0)
one_by m ts (BadWeight x) BadWorkers f_known g_known h k = absurd (k.1 h.1)
one_by m ts (BadWeight x) (BadWeight y) f_known g_known h k = ap BadWeight (same_bad ts x y h.2 k.2)
one_by m ts (BadWeight x) (HyperperiodTooLarge y) f_known g_known h k = absurd (bad_among ts x h.2 k.2)
one_by m ts (BadWeight x) Overload f_known g_known h k = absurd (bad_among ts x h.2 k.2)
one_by m ts (HyperperiodTooLarge x) NoTasks f_known g_known h k = absurd (no_tasks ts k h.0)
one_by m ts (HyperperiodTooLarge x) TooManyTasks f_known g_known h k = absurd (too_many ts k h.0)
one_by m ts (HyperperiodTooLarge x) BadWorkers f_known g_known h k = absurd (k.1 h.1)
one_by m ts (HyperperiodTooLarge x) (BadWeight y) f_known g_known h k = absurd (bad_among ts y k.2 h.2)
one_by m ts (HyperperiodTooLarge x) (HyperperiodTooLarge y) f_known g_known h k = ap HyperperiodTooLarge (same_large ts x y h.2 h.3 k.3)
one_by m ts (HyperperiodTooLarge x) Overload f_known g_known h k = absurd (too_large_of ts x k.3.l h.2 h.3 k.3.hyper k.3.within)
one_by m ts Overload NoTasks f_known g_known h k = absurd (no_tasks ts k h.0)
one_by m ts Overload TooManyTasks f_known g_known h k = absurd (too_many ts k h.0)
one_by m ts Overload BadWorkers f_known g_known h k = absurd (k.1 h.1)
one_by m ts Overload (BadWeight y) f_known g_known h k = absurd (bad_among ts y k.2 h.2)
one_by m ts Overload (HyperperiodTooLarge y) f_known g_known h k = absurd (too_large_of ts y h.3.l k.2 k.3 h.3.hyper h.3.within)
one_by m ts Overload Overload f_known g_known h k = refl

pub none_by : (m : ℕ) (ts : List (ℕ × ℕ)) (s : FilledSet) (f : SetFault) → Accepts m ts s → Refuses m ts f → f ≡ NoMemory
none_by m ts s NoTasks a h = absurd (no_tasks ts h a.count)
none_by m ts s TooManyTasks a h = absurd (too_many ts h a.count)
none_by m ts s BadWorkers a h = absurd (h.1 a.workers)
none_by m ts s (BadWeight x) a h = absurd (bad_among ts x h.2 a.weights)
none_by m ts s (HyperperiodTooLarge x) a h = absurd (too_large_of ts x s.hyper h.2 h.3 a.hyper a.within)
none_by m ts s Overload a h =
    let o = h.3 in
    let same : o.l ≡ s.hyper = one_hyper ts o.l s.hyper o.hyper a.hyper in
    let over : m * s.hyper < demand s.hyper ts = subst (λ l. m * l < demand l ts) same o.over in
    let fits = a.fits in
    absurd (omega (arith, over, fits))
none_by m ts s NoMemory a h = refl
