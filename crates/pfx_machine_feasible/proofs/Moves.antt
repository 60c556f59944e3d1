-- A column after a move.
use Rattle.std.proofs.Common.{◌≡◌, ◌≢◌, ℕ, ◌+◌, ◌*◌, ◌<◌, ◌≤◌, max, min, Bool, true, false, arith, ap, sym, ◌∙◌, refl, subst, ◌⊎◌, inl, inr}
use Rattle.std.proofs.lemmas.Bool.{cases_lt, cases_eq}
use Rattle.pfx_weights.specs.Rows.{one, count}
use Rattle.pfx_choice.proofs.SetSchedules.{upd}
use Rattle.pfx_weights.proofs.Counts.{true_not_false, count-same}
use Rattle.pfx_choice.proofs.Keeping.{upd-same, upd-other, count-upd}
use Rattle.pfx_machine_feasible.specs.Moves.{IsAhead, IsBehind, Move, moved}

pub count-upd_out : (n : ℕ) (r : ℕ → Bool) (x : ℕ) (b : Bool) → n ≤ x → count n (upd x b r) ≡ count n r
count-upd_out n r x b l = count-same n (upd x b r) r (λ z k. upd-other x b r z (omega arith))

pub moved-from : (a b : ℕ) (c : ℕ → Bool) → a ≢ b → moved a b c a ≡ false
moved-from a b c ne = upd-other b true (upd a false c) a ne ∙ upd-same a false c a refl

pub moved-to : (a b : ℕ) (c : ℕ → Bool) → moved a b c b ≡ true
moved-to a b c = upd-same b true (upd a false c) b refl

pub moved-other : (a b : ℕ) (c : ℕ → Bool) (i : ℕ) → i ≢ a → i ≢ b → moved a b c i ≡ c i
moved-other a b c i na nb = upd-other b true (upd a false c) i nb ∙ upd-other a false c i na

module _ (e p : ℕ) (c : ℕ → Bool) (a b : ℕ) (m : Move e p c a b) where
  pub apart : a ≢ b
  apart q = true_not_false (c a) m.from (ap c q ∙ m.to)

  drop_one : (i : ℕ) → a < i → count i (upd a false c) + 1 ≡ count i c
  drop_one i l =
      let h : count i (upd a false c) + one (c a) ≡ count i c + 0 = count-upd i c a false l in
      let k : one (c a) ≡ 1 = ap one m.from in
      omega arith

  add_one : (i : ℕ) → b < i → count i (moved a b c) ≡ count i (upd a false c) + 1
  add_one i l =
      let h : count i (moved a b c) + one (upd a false c b) ≡ count i (upd a false c) + 1 = count-upd i (upd a false c) b true l in
      let k : one (upd a false c b) ≡ 0 = ap one (upd-other a false c b (λ q. apart (sym q)) ∙ m.to) in
      omega arith

  -- how many slots the moved column takes before i: between the two slots one fewer, or one more
  pub fewer : (i : ℕ) → a < i → i ≤ b → count i c ≡ count i (moved a b c) + 1
  fewer i l k =
      let h = drop_one i l in
      let j : count i (moved a b c) ≡ count i (upd a false c) = count-upd_out i (upd a false c) b true k in
      omega arith

  pub more : (i : ℕ) → b < i → i ≤ a → count i (moved a b c) ≡ count i c + 1
  more i l k =
      let h = add_one i l in
      let j : count i (upd a false c) ≡ count i c = count-upd_out i c a false k in
      omega arith

  both : (i : ℕ) → a < i → b < i → count i (moved a b c) ≡ count i c
  both i l k =
      let h = add_one i k in
      let j = drop_one i l in
      omega arith

  neither : (i : ℕ) → i ≤ a → i ≤ b → count i (moved a b c) ≡ count i c
  neither i l k = count-upd_out i (upd a false c) b true k ∙ count-upd_out i c a false l

  -- by where i lies
  pub by_place : (P : Type 0) (i : ℕ) → (a < i → i ≤ b → count i c ≡ count i (moved a b c) + 1 → P) → (b < i → i ≤ a → count i (moved a b c) ≡ count i c + 1 → P) → (count i (moved a b c) ≡ count i c → P) → P
  by_place P i f g h = elim (cases_lt a i) [
    | inl l ↦ elim (cases_lt b i) [
      | inl k ↦ h (both i l k)
      | inr k ↦ f l k (fewer i l k)
    ]
    | inr l ↦ elim (cases_lt b i) [
      | inl k ↦ g k l (more i k l)
      | inr k ↦ h (neither i l k)
    ]
  ]

  pub p_fewer : (i : ℕ) → count i c ≡ count i (moved a b c) + 1 → p * count i c ≡ p * count i (moved a b c) + p
  p_fewer i q = ap (λ k. p * k) q ∙ omega arith

  pub p_more : (i : ℕ) → count i (moved a b c) ≡ count i c + 1 → p * count i (moved a b c) ≡ p * count i c + p
  p_more i q = ap (λ k. p * k) q ∙ omega arith

  pub p_same : (i : ℕ) → count i (moved a b c) ≡ count i c → p * count i (moved a b c) ≡ p * count i c
  p_same i q = ap (λ k. p * k) q

  -- the moved column is fair where the column is
  pub fair_moved : (i : ℕ) → p * count i c < e * i + p → e * i < p * count i c + p → (p * count i (moved a b c) < e * i + p) × (e * i < p * count i (moved a b c) + p)
  fair_moved i low high = by_place ((p * count i (moved a b c) < e * i + p) × (e * i < p * count i (moved a b c) + p)) i
      (λ l k q. let r = p_fewer i q in let u : IsAhead e p c i = m.later i l k in (omega arith, omega arith))
      (λ l k q. let r = p_more i q in let u : IsBehind e p c i = m.earlier i l k in (omega arith, omega arith))
      (λ q. let r = p_same i q in (omega arith, omega arith))

  -- another move of the column is still one, or one can go on with it from the first slot
  pub survives : (s v : ℕ) → Move e p c s v → Move e p (moved a b c) s v ⊎ Move e p c a v
  survives s v w = elim (cases_eq v b) [
    | inl same ↦ inr (subst (Move e p c a) (sym same) m)
    | inr v_b ↦ elim (cases_eq s a) [
      | inl same ↦ inr (subst (λ z. Move e p c z v) same w)
      | inr s_a ↦
          (let v_a : v ≢ a = λ q. true_not_false (c v) (ap c q ∙ m.from) w.to in
          let s_b : s ≢ b = λ q. true_not_false (c s) w.from (ap c q ∙ m.to) in
          elim (cases_lt (max a s) (min b v)) [
            | inl meet ↦ inr (record {
              from = m.from;
              to = w.to;
              later = λ i lo hi. elim (cases_lt b i) [
                | inl k ↦ w.later i (omega arith) hi
                | inr k ↦ m.later i lo k
              ];
              earlier = λ i lo hi. absurd (omega arith);
            })
            | inr apart_up ↦ elim (cases_lt (max b v) (min a s)) [
              | inl meet ↦ inr (record {
                from = m.from;
                to = w.to;
                later = λ i lo hi. absurd (omega arith);
                earlier = λ i lo hi. elim (cases_lt s i) [
                  | inl k ↦ m.earlier i (omega arith) hi
                  | inr k ↦ w.earlier i lo k
                ];
              })
              | inr apart_down ↦ inl (record {
                from = moved-other a b c s s_a s_b ∙ w.from;
                to = moved-other a b c v v_a v_b ∙ w.to;
                later = λ i lo hi. by_place (IsAhead e p (moved a b c) i) i
                    (λ l k q. absurd (omega arith))
                    (λ l k q. let r = p_more i q in let u : IsAhead e p c i = w.later i lo hi in omega arith)
                    (λ q. let r = p_same i q in let u : IsAhead e p c i = w.later i lo hi in omega arith);
                earlier = λ i lo hi. by_place (IsBehind e p (moved a b c) i) i
                    (λ l k q. let r = p_fewer i q in let u : IsBehind e p c i = w.earlier i lo hi in omega arith)
                    (λ l k q. absurd (omega arith))
                    (λ q. let r = p_same i q in let u : IsBehind e p c i = w.earlier i lo hi in omega arith);
              })
            ]
          ])
    ]
  ]
