-- How many slots of a set closed under its moves a column takes.
use Rattle.std.proofs.Common.{◌≡◌, ℕ, zero, suc, ◌+◌, ◌*◌, ◌<◌, ◌≤◌, Bool, true, false, if◌then◌else◌, arith, ap, sym, ◌∙◌, refl, subst, ◌⊎◌, inl, inr}
use Rattle.std.proofs.lemmas.Bool.{cases_lt, cases_eq}
use Rattle.pfx_weights.specs.Rows.{one, count}
use Rattle.pfx_weights.proofs.Counts.{true_not_false}
use Rattle.pfx_machine_feasible.specs.Moves.{IsAhead, IsBehind, Move, IsClosed, inside}

pub inside_is : (S c : ℕ → Bool) (s : ℕ) → S s ≡ true → inside S c s ≡ c s
inside_is S c s h = ap (λ b. if b then c s else false) h

pub inside_not : (S c : ℕ → Bool) (s : ℕ) → S s ≡ false → inside S c s ≡ false
inside_not S c s h = ap (λ b. if b then c s else false) h

pub taken : (p t : ℕ) (c : ℕ → Bool) → c t ≡ true → p * count (suc t) c ≡ p * count t c + p
taken p t c h = (let k : one (c t) ≡ 1 = ap one h in ap (λ b. p * (count t c + b)) k ∙ omega arith)

pub left : (p t : ℕ) (c : ℕ → Bool) → c t ≡ false → p * count (suc t) c ≡ p * count t c
left p t c h = (let k : one (c t) ≡ 0 = ap one h in ap (λ b. p * (count t c + b)) k ∙ omega arith)

-- the slots before t: Y = p * (how many of S the column takes) - e * (how many are in S) against the column's own difference D
record Low (e p : ℕ) (c S : ℕ → Bool) (t : ℕ) : Type 0 where
  level : p * count t (inside S c) ≤ e * count t S
  under : p * count t (inside S c) + e * t ≤ e * count t S + p * count t c

-- an up run in which the column takes slot s of S
record Above (e p : ℕ) (c S : ℕ → Bool) (t : ℕ) : Type 0 where
  s : ℕ
  before : s < t
  takes : c s ≡ true
  within : S s ≡ true
  run : (i : ℕ) → s < i → i ≤ t → IsAhead e p c i
  under : p * count t (inside S c) + e * t ≤ e * count t S + p * count t c

-- a down run in which the column leaves slot v, not of S
record Below (e p : ℕ) (c S : ℕ → Bool) (t : ℕ) : Type 0 where
  v : ℕ
  before : v < t
  leaves : c v ≡ false
  without : S v ≡ false
  run : (i : ℕ) → v < i → i ≤ t → IsBehind e p c i
  level : p * count t (inside S c) ≤ e * count t S

abbrev Inv : ℕ → ℕ → (ℕ → Bool) → (ℕ → Bool) → ℕ → Type 0
Inv e p c S t = Low e p c S t ⊎ (Above e p c S t ⊎ Below e p c S t)

module _ (e p : ℕ) (less : e ≤ p) (c S : ℕ → Bool) (T : ℕ) (closed : IsClosed e p c S T) where
  step_low : (t : ℕ) (b d : Bool) → c t ≡ b → S t ≡ d → Low e p c S t → Inv e p c S (suc t)
  step_low t true true cb sd h =
      let x : p * count (suc t) (inside S c) ≡ p * count t (inside S c) + p = taken p t (inside S c) (inside_is S c t sd ∙ cb) in
      let y : e * count (suc t) S ≡ e * count t S + e = taken e t S sd in
      let z : p * count (suc t) c ≡ p * count t c + p = taken p t c cb in
      let l = h.level in
      let u = h.under in
      elim (cases_lt (e * suc t) (p * count (suc t) c)) [
        | inl up ↦ inr (inl (record {
          s = t;
          before = omega arith;
          takes = cb;
          within = sd;
          run = λ i lo hi. (let is : suc t ≡ i = omega arith in subst (IsAhead e p c) is up);
          under = omega (arith, u);
        }))
        | inr not ↦ inl (record { level = omega (arith, u); under = omega (arith, u) })
      ]
  step_low t true false cb sd h =
      let x : p * count (suc t) (inside S c) ≡ p * count t (inside S c) = left p t (inside S c) (inside_not S c t sd) in
      let y : e * count (suc t) S ≡ e * count t S = left e t S sd in
      let z : p * count (suc t) c ≡ p * count t c + p = taken p t c cb in
      inl (record { level = omega (arith, h.level); under = omega (arith, h.under) })
  step_low t false true cb sd h =
      let x : p * count (suc t) (inside S c) ≡ p * count t (inside S c) = left p t (inside S c) (inside_is S c t sd ∙ cb) in
      let y : e * count (suc t) S ≡ e * count t S + e = taken e t S sd in
      let z : p * count (suc t) c ≡ p * count t c = left p t c cb in
      inl (record { level = omega (arith, h.level); under = omega (arith, h.under) })
  step_low t false false cb sd h =
      let x : p * count (suc t) (inside S c) ≡ p * count t (inside S c) = left p t (inside S c) (inside_not S c t sd) in
      let y : e * count (suc t) S ≡ e * count t S = left e t S sd in
      let z : p * count (suc t) c ≡ p * count t c = left p t c cb in
      let l = h.level in
      elim (cases_lt (p * count (suc t) c) (e * suc t)) [
        | inl down ↦ inr (inr (record {
          v = t;
          before = omega arith;
          leaves = cb;
          without = sd;
          run = λ i lo hi. (let is : suc t ≡ i = omega arith in subst (IsBehind e p c) is down);
          level = omega (arith, l);
        }))
        | inr not ↦ inl (record { level = omega (arith, l); under = omega (arith, l) })
      ]

  longer_up : (t s : ℕ) → ((i : ℕ) → s < i → i ≤ t → IsAhead e p c i) → IsAhead e p c (suc t) → (i : ℕ) → s < i → i ≤ suc t → IsAhead e p c i
  longer_up t s run up i lo hi = elim (cases_eq i (suc t)) [
    | inl is ↦ subst (IsAhead e p c) (sym is) up
    | inr not ↦ run i lo (omega arith)
  ]

  longer_down : (t s : ℕ) → ((i : ℕ) → s < i → i ≤ t → IsBehind e p c i) → IsBehind e p c (suc t) → (i : ℕ) → s < i → i ≤ suc t → IsBehind e p c i
  longer_down t s run down i lo hi = elim (cases_eq i (suc t)) [
    | inl is ↦ subst (IsBehind e p c) (sym is) down
    | inr not ↦ run i lo (omega arith)
  ]

  step_above : (t : ℕ) (b d : Bool) → t < T → c t ≡ b → S t ≡ d → Above e p c S t → Inv e p c S (suc t)
  step_above t true true l cb sd h =
      let x : p * count (suc t) (inside S c) ≡ p * count t (inside S c) + p = taken p t (inside S c) (inside_is S c t sd ∙ cb) in
      let y : e * count (suc t) S ≡ e * count t S + e = taken e t S sd in
      let z : p * count (suc t) c ≡ p * count t c + p = taken p t c cb in
      let now : IsAhead e p c t = h.run t h.before (omega arith) in
      let next : IsAhead e p c (suc t) = omega arith in
      let b = h.before in
      inr (inl (record { s = h.s; before = omega (arith, b); takes = h.takes; within = h.within; run = longer_up t h.s h.run next; under = omega (arith, h.under) }))
  step_above t true false l cb sd h =
      let x : p * count (suc t) (inside S c) ≡ p * count t (inside S c) = left p t (inside S c) (inside_not S c t sd) in
      let y : e * count (suc t) S ≡ e * count t S = left e t S sd in
      let z : p * count (suc t) c ≡ p * count t c + p = taken p t c cb in
      let now : IsAhead e p c t = h.run t h.before (omega arith) in
      let next : IsAhead e p c (suc t) = omega arith in
      let b = h.before in
      inr (inl (record { s = h.s; before = omega (arith, b); takes = h.takes; within = h.within; run = longer_up t h.s h.run next; under = omega (arith, h.under) }))
  step_above t false true l cb sd h =
      let x : p * count (suc t) (inside S c) ≡ p * count t (inside S c) = left p t (inside S c) (inside_is S c t sd ∙ cb) in
      let y : e * count (suc t) S ≡ e * count t S + e = taken e t S sd in
      let z : p * count (suc t) c ≡ p * count t c = left p t c cb in
      let b = h.before in
      let u = h.under in
      elim (cases_lt (e * suc t) (p * count (suc t) c)) [
        | inl up ↦ inr (inl (record { s = h.s; before = omega (arith, b); takes = h.takes; within = h.within; run = longer_up t h.s h.run up; under = omega (arith, u) }))
        | inr not ↦ inl (record { level = omega (arith, u); under = omega (arith, u) })
      ]
  step_above t false false l cb sd h =
      let b : h.s < t = h.before in
      let m : Move e p c h.s t = record { from = h.takes; to = cb; later = h.run; earlier = λ i lo hi. absurd (omega arith) } in
      true_not_false (S t) (closed h.s t (omega arith) l h.within m) sd

  step_below : (t : ℕ) (b d : Bool) → t < T → c t ≡ b → S t ≡ d → Below e p c S t → Inv e p c S (suc t)
  step_below t true true l cb sd h =
      let b : h.v < t = h.before in
      let m : Move e p c t h.v = record { from = cb; to = h.leaves; later = λ i lo hi. absurd (omega arith); earlier = h.run } in
      true_not_false (S h.v) (closed t h.v l (omega arith) sd m) h.without
  step_below t true false l cb sd h =
      let x : p * count (suc t) (inside S c) ≡ p * count t (inside S c) = left p t (inside S c) (inside_not S c t sd) in
      let y : e * count (suc t) S ≡ e * count t S = left e t S sd in
      let z : p * count (suc t) c ≡ p * count t c + p = taken p t c cb in
      let b = h.before in
      let u = h.level in
      elim (cases_lt (p * count (suc t) c) (e * suc t)) [
        | inl down ↦ inr (inr (record { v = h.v; before = omega (arith, b); leaves = h.leaves; without = h.without; run = longer_down t h.v h.run down; level = omega (arith, u) }))
        | inr not ↦ inl (record { level = omega (arith, u); under = omega (arith, u) })
      ]
  step_below t false true l cb sd h =
      let x : p * count (suc t) (inside S c) ≡ p * count t (inside S c) = left p t (inside S c) (inside_is S c t sd ∙ cb) in
      let y : e * count (suc t) S ≡ e * count t S + e = taken e t S sd in
      let z : p * count (suc t) c ≡ p * count t c = left p t c cb in
      let now : IsBehind e p c t = h.run t h.before (omega arith) in
      let next : IsBehind e p c (suc t) = omega arith in
      let b = h.before in
      inr (inr (record { v = h.v; before = omega (arith, b); leaves = h.leaves; without = h.without; run = longer_down t h.v h.run next; level = omega (arith, h.level) }))
  step_below t false false l cb sd h =
      let x : p * count (suc t) (inside S c) ≡ p * count t (inside S c) = left p t (inside S c) (inside_not S c t sd) in
      let y : e * count (suc t) S ≡ e * count t S = left e t S sd in
      let z : p * count (suc t) c ≡ p * count t c = left p t c cb in
      let now : IsBehind e p c t = h.run t h.before (omega arith) in
      let next : IsBehind e p c (suc t) = omega arith in
      let b = h.before in
      inr (inr (record { v = h.v; before = omega (arith, b); leaves = h.leaves; without = h.without; run = longer_down t h.v h.run next; level = omega (arith, h.level) }))

  step : (t : ℕ) → t < T → Inv e p c S t → Inv e p c S (suc t)
  step t l (inl h) = step_low t (c t) (S t) refl refl h
  step t l (inr (inl h)) = step_above t (c t) (S t) l refl refl h
  step t l (inr (inr h)) = step_below t (c t) (S t) l refl refl h

  inv : (t : ℕ) → t ≤ T → Inv e p c S t
  inv zero l = inl (record { level = omega arith; under = omega arith })
  inv (suc t) l = step t (omega arith) (inv t (omega arith))

  at_end : (t : ℕ) → p * count t c ≡ e * t → Inv e p c S t → p * count t (inside S c) ≤ e * count t S
  at_end t level (inl h) = h.level
  at_end t level (inr (inl h)) = (let u = h.under in omega (arith, u))
  at_end t level (inr (inr h)) = h.level

  -- of a set closed under its moves a column that ends level takes at most e/p of the slots
  pub few : p * count T c ≡ e * T → p * count T (inside S c) ≤ e * count T S
  few level = at_end T level (inv T (omega arith))
