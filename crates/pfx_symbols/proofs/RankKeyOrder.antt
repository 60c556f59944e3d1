-- Ranks are ordered as their keys.
use Rattle.std.proofs.Common.{◌≡◌, ◌≢◌, ℕ, ◌+◌, ◌-◌, ◌*◌, ◌/◌, ◌^◌, ◌==◌, ◌<◌, ◌≤◌, true, false, if◌then◌else◌, ap, sym, subst, ◌∙◌, arith, inl, inr, ◌⊎◌}
use Rattle.std.proofs.Math.Nat.{mod-lt, mul-le-mul_left}
use Rattle.std.proofs.lemmas.Bool.{cases_lt, cases_eq, eq-eqb, ne_eqb, lt-ltb, le-ltb}
use Rattle.std.specs.Ordering.{nat_cmp}
use Rattle.std.specs.Cmp.Lexicographic.{slice_cmp}
use Rattle.pfx_symbols.specs.declared.keys.Key.{Key}
use Rattle.pfx_symbols.specs.Symbols.{symbol_cmp}
use Rattle.pfx_symbols.specs.Laws.{Tells}
use Rattle.pfx_symbols.specs.Strings.{Spells}
use Rattle.pfx_symbols.specs.Ranks.{Parts, IsRank, substring}
use Rattle.pfx_symbols.specs.Keys.{gap, gaps_key, keys, key_behind, key_after_gap}
use Rattle.pfx_symbols.specs.RankKeys.{next_of, first_gap, by_gap, rank_key}
use Rattle.pfx_symbols.specs.Ranges.{HasGaps}
use Rattle.pfx_symbols.proofs.Phases.{spelled}
use Rattle.pfx_symbols.proofs.Rounds.{Head, head, gaps_differ, number_greater, some_steps, first_plus}
use Rattle.pfx_symbols.proofs.Splits.{Reaches, gap_is}
use Rattle.pfx_symbols.proofs.KeyOrder.{IsWeight, Stops, Goes, front, rest_tells, gaps_fit, gaps_tell, if_true, if_false}

-- a rank's substring, spelled from the next phase on
record IsSpelled (r : Parts) : Type 0 where
  weight : IsWeight r.e r.p
  low : next_of r < r.p
  spells : Spells r.e r.p (next_of r) (substring r)
  at : Reaches r.e (r.p - next_of r) (gap r.e (r.p - next_of r))

is_spelled : (r : Parts) → IsRank r → IsSpelled r
is_spelled r h =
    let low : next_of r < r.p = mod-lt (r.phase + r.e) (omega (arith, h.below)) in
    record {
      weight = record { some = h.above; less = h.below; limit = h.limit };
      low = low;
      spells = spelled r.e r.p r.phase (omega (arith, h.above)) h.below h.reached;
      at = gap_is r.e (r.p - next_of r) h.above (omega (arith, low));
    }

head_of : (r : Parts) → IsSpelled r → Head (gap r.e (r.p - next_of r) - 1) (substring r)
head_of r s =
    head r.e r.p (next_of r) (gap r.e (r.p - next_of r)) (substring r) s.weight.some s.weight.less s.low (omega (arith, s.at.reach)) (omega (arith, s.at.least, s.low)) s.spells

some_gap : (r : Parts) → IsSpelled r → 1 ≤ gap r.e (r.p - next_of r)
some_gap r s = some_steps r.e (gap r.e (r.p - next_of r)) (r.p - next_of r) (omega (arith, s.low)) s.at.reach

-- the rank with the shorter first gap is greater
pub gaps_tell_order : (a b : Parts) → IsRank a → IsRank b → gap a.e (a.p - next_of a) ≢ gap b.e (b.p - next_of b)
    → nat_cmp (gap b.e (b.p - next_of b)) (gap a.e (a.p - next_of a)) ≡ slice_cmp symbol_cmp (substring a) (substring b)
gaps_tell_order a b a_is b_is other =
    let s = is_spelled a a_is in
    let t = is_spelled b b_is in
    gaps_differ (gap a.e (a.p - next_of a)) (gap b.e (b.p - next_of b)) (substring a) (substring b) (some_gap a s) (some_gap b t) other (head_of a s) (head_of b t)

-- of ranks with first gaps of one length, what the keys tell
pub keys_tell : (n : ℕ) (a b : Parts) → IsRank a → IsRank b → gap a.e (a.p - next_of a) ≡ gap b.e (b.p - next_of b)
    → Tells (key_after_gap n a.e a.p (next_of a)) (key_after_gap n b.e b.p (next_of b)) (substring a) (substring b)
keys_tell n a b a_is b_is same =
    let s = is_spelled a a_is in
    let t = is_spelled b b_is in
    let i = gap a.e (a.p - next_of a) in
    let j = gap b.e (b.p - next_of b) in
    let x = front (gaps_key n) (keys + 1) a.e a.p (next_of a) i (substring a) s.weight s.low s.at s.spells in
    let y = front (gaps_key n) (keys + 1) b.e b.p (next_of b) j (substring b) t.weight t.low t.at t.spells in
    let k = key_after_gap n b.e b.p (next_of b) in
    let P : ℕ → Type 0 = λ g. Stops (keys + 1) g (substring b) k ⊎ Goes (gaps_key n) (keys + 1) g b.e b.p (next_of b + b.e * j - b.p) (substring b) k in
    rest_tells (gaps_key n) (gaps_fit n) (gaps_tell n) (keys + 1) i a.e a.p (next_of a + a.e * i - a.p) b.e b.p (next_of b + b.e * j - b.p)
    (substring a) (substring b) (key_after_gap n a.e a.p (next_of a)) k x (subst P (sym same) y)

-- a gap is the only number that reaches and no more
pub only_gap : (e x i : ℕ) → 1 ≤ e → 1 ≤ x → x ≤ e * i → e * i < x + e → i ≡ gap e x
only_gap e x i some more reach least =
    let g = gap_is e x some more in
    elim (cases_eq i (gap e x)) [
      | inl same ↦ same
      | inr other ↦ elim (cases_lt i (gap e x)) [
        | inl lower ↦
            absurd
            (let most : e * (i + 1) ≤ e * gap e x = mul-le-mul_left e (omega (arith, lower)) in
            let spread : e * (i + 1) ≡ e * i + e = omega arith in
            omega (arith, most, spread, reach, g.least))
        | inr higher ↦
            absurd
            (let most : e * (gap e x + 1) ≤ e * i = mul-le-mul_left e (omega (arith, higher, other)) in
            let spread : e * (gap e x + 1) ≡ e * gap e x + e = omega arith in
            omega (arith, most, spread, g.reach, least))
      ]
    ]

-- what a rank's substring has behind its first gap, unless it ends with that
pub behind_gap : (q : Parts) (e p r i : ℕ) → IsRank q → q.e ≡ e → q.p ≡ p → next_of q ≡ r → p ≤ r + e * i → r + e * i < p + e → r + e * i - p ≢ 0 → HasGaps e p (r + e * i - p)
behind_gap q e p r i q_is e_is p_is r_is reach least some =
    let P : ℕ → ℕ → ℕ → Type 0 = λ a b c. b ≤ c + a * i → c + a * i < b + a → c + a * i - b ≢ 0 → HasGaps a b (c + a * i - b) in
    let s = is_spelled q q_is in
    let here : P q.e q.p (next_of q) = (λ reach least some.
    (let v = next_of q + q.e * i - q.p in
    let high : v < q.e = omega (arith, least, s.weight.some) in
    let a = first_plus q.e q.p (next_of q) i v (substring q) s.weight.less s.low (omega (arith, some)) high (omega (arith, some, reach)) s.spells in
    record {
      string = record { some = s.weight.some; less = s.weight.less; limit = s.weight.limit; phase = omega (arith, high, s.weight.less); string = a.rest; spelled = a.spelled };
      low = omega (arith, some);
      high = high;
    })) in
    subst (λ a. P a p r) e_is (subst (λ b. P q.e b r) p_is (subst (λ c. P q.e q.p c) r_is here)) reach least some

-- a key of a string behind a gap is one of all keys
pub key_most : (n e p v : ℕ) → HasGaps e p v → (key_behind n e p v).number ≤ 2 ^ 62
key_most n e p v h =
    let w = gaps_fit n keys e p v h.string.string (record { weight = record { some = h.string.some; less = h.string.less; limit = h.string.limit }; low = h.low; high = h.high }) h.string.spelled in
    w.most

-- a key behind a first gap is one of all keys
pub behind_most : (n : ℕ) (r : Parts) → IsRank r → (key_after_gap n r.e r.p (next_of r)).number ≤ 2 ^ 62
behind_most n r h =
    let s = is_spelled r h in
    elim (cases_eq (next_of r + r.e * first_gap r) r.p) [
      | inl same ↦ (let is = ap (λ k. k.number) (if_true (next_of r + r.e * first_gap r == r.p) (record { number = keys; whole = true }) (gaps_key n keys r.e r.p (next_of r + r.e * first_gap r - r.p)) (eq-eqb _ _ same)) in omega (arith, is))
      | inr other ↦
          (let is = ap (λ k. k.number) (if_false (next_of r + r.e * first_gap r == r.p) (record { number = keys; whole = true }) (gaps_key n keys r.e r.p (next_of r + r.e * first_gap r - r.p)) (ne_eqb _ _ other)) in
          let over : r.p ≤ next_of r + r.e * first_gap r = omega (arith, s.at.reach, s.low) in
          let below : next_of r + r.e * first_gap r - r.p < r.e = omega (arith, s.at.least, s.low, s.weight.some) in
          let some : next_of r + r.e * first_gap r - r.p ≢ 0 = λ z. other (omega (arith, z, over)) in
          let a = first_plus r.e r.p (next_of r) (first_gap r) (next_of r + r.e * first_gap r - r.p) (substring r) s.weight.less s.low (omega (arith, some)) below (omega (arith, some, over)) s.spells in
          let w = gaps_fit n keys r.e r.p (next_of r + r.e * first_gap r - r.p) a.rest (record { weight = s.weight; low = omega (arith, some); high = below }) a.spelled in
          omega (arith, is, w.most))
    ]

-- keys of first gaps: the number, and whether it tells the whole
at_guess : (guess i : ℕ) (k : Key) → i ≡ guess → by_gap guess i k ≡ record { number = k.number + 1; whole = k.whole }
at_guess guess i k is = if_true (i == guess) _ _ (eq-eqb i guess is)

before_guess : (guess i : ℕ) (k : Key) → i < guess → by_gap guess i k ≡ record { number = 0; whole = false }
before_guess guess i k less = if_false (i == guess) _ _ (ne_eqb i guess (λ e. omega (arith, less, e))) ∙ ap (λ b. record { number = if b then 0 else keys + i * 2 ^ 40 + k.number / 2 ^ 22; whole = false }) (lt-ltb i guess less)

behind_guess : (guess i : ℕ) (k : Key) → guess < i → by_gap guess i k ≡ record { number = keys + i * 2 ^ 40 + k.number / 2 ^ 22; whole = false }
behind_guess guess i k less = if_false (i == guess) _ _ (ne_eqb i guess (λ e. omega (arith, less, e))) ∙ ap (λ b. record { number = if b then 0 else keys + i * 2 ^ 40 + k.number / 2 ^ 22; whole = false }) (le-ltb i guess (omega (arith, less)))

-- a longer first gap has no lesser key
longer_later : (guess i j : ℕ) (k l : Key) → j < i → l.number ≤ 2 ^ 62 → (by_gap guess j l).number ≤ (by_gap guess i k).number
longer_later guess i j k l longer most = elim (cases_lt j guess) [
  | inl before ↦ (let n = ap (λ x. x.number) (before_guess guess j l before) in omega (arith, n))
  | inr from ↦
      (let m = ap (λ x. x.number) (behind_guess guess i k (omega (arith, from, longer))) in
      elim (cases_eq j guess) [
        | inl at ↦ (let n = ap (λ x. x.number) (at_guess guess j l at) in omega (arith, n, m, most, longer))
        | inr other ↦ (let n = ap (λ x. x.number) (behind_guess guess j l (omega (arith, from, other))) in omega (arith, n, m, most, longer))
      ])
]

-- of first gaps of one length the lesser key has the lesser key behind it
same_gap : (guess i : ℕ) (k l : Key) → (by_gap guess i k).number < (by_gap guess i l).number → k.number < l.number
same_gap guess i k l less = elim (cases_lt i guess) [
  | inl before ↦ absurd (let m = ap (λ x. x.number) (before_guess guess i k before) in let n = ap (λ x. x.number) (before_guess guess i l before) in omega (arith, m, n, less))
  | inr from ↦ elim (cases_eq i guess) [
    | inl at ↦ (let m = ap (λ x. x.number) (at_guess guess i k at) in let n = ap (λ x. x.number) (at_guess guess i l at) in omega (arith, m, n, less))
    | inr other ↦ (let m = ap (λ x. x.number) (behind_guess guess i k (omega (arith, from, other))) in let n = ap (λ x. x.number) (behind_guess guess i l (omega (arith, from, other))) in omega (arith, m, n, less))
  ]
]

-- only keys of the guessed first gap tell the whole
whole_at : (guess i : ℕ) (k : Key) → (by_gap guess i k).whole ≡ true → i ≡ guess
whole_at guess i k is = elim (cases_eq i guess) [
  | inl at ↦ at
  | inr other ↦ absurd (let w : false ≡ true = sym (ap (λ x. x.whole) (if_false (i == guess) _ _ (ne_eqb i guess other))) ∙ is in cc)
]

-- what the keys of two ranks tell
pub rank_keys_tell : (guess n : ℕ) (a b : Parts) → IsRank a → IsRank b → Tells (rank_key guess n a) (rank_key guess n b) (substring a) (substring b)
rank_keys_tell guess n a b a_is b_is =
    let i = first_gap a in
    let j = first_gap b in
    let k = key_after_gap n a.e a.p (next_of a) in
    let l = key_after_gap n b.e b.p (next_of b) in
    record {
      less = λ less. elim (cases_eq i j) [
        | inl same ↦ (keys_tell n a b a_is b_is same).less (same_gap guess j k l (subst (λ m. (by_gap guess m k).number < (by_gap guess j l).number) same less))
        | inr other ↦ elim (cases_lt i j) [
          | inl shorter ↦ sym (gaps_tell_order a b a_is b_is other) ∙ number_greater i j shorter
          | inr longer ↦ absurd (let later = longer_later guess i j k l (omega (arith, longer, other)) (behind_most n b b_is) in omega (arith, later, less))
        ]
      ];
      same = λ is a_whole b_whole.
          (let a_at = whole_at guess i k a_whole in
          let b_at = whole_at guess j l b_whole in
          let m = at_guess guess i k a_at in
          let o = at_guess guess j l b_at in
          let p = ap (λ x. x.number) m in
          let q = ap (λ x. x.number) o in
          (keys_tell n a b a_is b_is (a_at ∙ sym b_at)).same (omega (arith, p, q, is)) (sym (ap (λ x. x.whole) m) ∙ a_whole) (sym (ap (λ x. x.whole) o) ∙ b_whole));
    }
