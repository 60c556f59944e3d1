-- How numbers split a range of keys.
use Rattle.std.proofs.Common.{◌≡◌, ℕ, suc, ◌+◌, ◌-◌, ◌*◌, ◌/◌, ◌<◌, ◌≤◌, ◌^◌, ap, sym, subst, ◌∙◌, arith, inl, inr, ◌⊎◌}
use Rattle.std.proofs.Math.Nat.{mul-div-le, div-div-eq-div-mul, div-le_self, mul-le-mul_right, lt-div-mul-add}
use Rattle.std.proofs.lemmas.Grind.{pow_more}
use Rattle.std.proofs.lemmas.Nat.{leading_top, pow-add}
use Rattle.std.proofs.Math.Nat.{pow-le-pow_right}
use Rattle.std.proofs.lemmas.Bool.{cases_lt, cases_eq}
use Rattle.std.specs.Int.Count.{count_leading_zeros}
use Rattle.pfx_symbols.specs.Keys.{level, start, width, gap}

-- a number stands between two powers of 2
pub record IsAtLevel (n j : ℕ) : Type 0 where
  pub low : 2 ^ j ≤ n
  pub high : n < 2 ^ (j + 1)

pub level_is : (n : ℕ) → 0 < n → n < 2 ^ 32 → IsAtLevel n (level n)
level_is n some few =
    let t = leading_top 32 n some few in
    let is : 31 - count_leading_zeros 32 n ≡ t.0 = omega (arith, t.1) in
    let P : ℕ → Type 0 = λ j. IsAtLevel n j in
    let next : suc t.0 ≡ t.0 + 1 = omega arith in
    let Q : ℕ → Type 0 = λ j. n < 2 ^ j in
    subst P (sym is) (record { low = t.2; high = subst Q next t.3 })

-- fewer keys for a greater power
antitone : (size i j : ℕ) → i ≤ j → size / 2 ^ j ≤ size / 2 ^ i
antitone size i j le =
    let is : i + (j - i) ≡ j = omega arith in
    let P : ℕ → Type 0 = λ k. size / 2 ^ k ≤ size / 2 ^ i in
    let apart : size / 2 ^ (i + (j - i)) ≡ size / 2 ^ i / 2 ^ (j - i) = ap (λ p. size / p) (pow-add 2 i (j - i)) ∙ sym (div-div-eq-div-mul size (2 ^ i) (2 ^ (j - i))) in
    let least = div-le_self (size / 2 ^ i) (2 ^ (j - i)) in
    subst P is (omega (arith, apart, least))

halves : (size j : ℕ) → 2 * (size / 2 ^ (j + 1)) ≤ size / 2 ^ j
halves size j =
    let apart : size / 2 ^ (j + 1) ≡ size / 2 ^ j / 2 ^ 1 = ap (λ p. size / p) (pow-add 2 j 1) ∙ sym (div-div-eq-div-mul size (2 ^ j) (2 ^ 1)) in
    let least = mul-div-le (size / 2 ^ j) (2 ^ 1) in
    omega (arith, apart, least)

parts : (size j : ℕ) → 2 ^ j * (size / 2 ^ (2 * j + 1)) ≤ size / 2 ^ (j + 1)
parts size j =
    let is : 2 * j + 1 ≡ j + 1 + j = omega arith in
    let apart : size / 2 ^ (2 * j + 1) ≡ size / 2 ^ (j + 1) / 2 ^ j =
    ap (λ k. size / 2 ^ k) is ∙ ap (λ p. size / p) (pow-add 2 (j + 1) j) ∙ sym (div-div-eq-div-mul size (2 ^ (j + 1)) (2 ^ j)) in
    let least = mul-div-le (size / 2 ^ (j + 1)) (2 ^ j) in
    subst (λ k. 2 ^ j * k ≤ size / 2 ^ (j + 1)) (sym apart) least

-- the keys of a number end before those of the next power of 2 begin
ends_by : (n j size : ℕ) → IsAtLevel n j → size - size / 2 ^ j + (n - 2 ^ j) * (size / 2 ^ (2 * j + 1)) + size / 2 ^ (2 * j + 1) ≤ size - size / 2 ^ (j + 1)
ends_by n j size at =
    let w = size / 2 ^ (2 * j + 1) in
    let next : 2 ^ (j + 1) ≡ 2 ^ j * 2 = pow_more 2 j in
    let few : n - 2 ^ j + 1 ≤ 2 ^ j = omega (arith, at.high, at.low, next) in
    let most : (n - 2 ^ j + 1) * w ≤ 2 ^ j * w = mul-le-mul_right w few in
    let spread : (n - 2 ^ j + 1) * w ≡ (n - 2 ^ j) * w + w = omega arith in
    let p = parts size j in
    let h = halves size j in
    let s = div-le_self size (2 ^ j) in
    omega (arith, most, spread, p, h, s)

apart_same : (n m size j i : ℕ) → j ≡ i → IsAtLevel n j → IsAtLevel m i → n < m
    → size - size / 2 ^ j + (n - 2 ^ j) * (size / 2 ^ (2 * j + 1)) + size / 2 ^ (2 * j + 1) ≤ size - size / 2 ^ i + (m - 2 ^ i) * (size / 2 ^ (2 * i + 1))
apart_same n m size j i same a b less =
    let P : ℕ → Type 0 = λ k. size - size / 2 ^ j + (n - 2 ^ j) * (size / 2 ^ (2 * j + 1)) + size / 2 ^ (2 * j + 1) ≤ size - size / 2 ^ k + (m - 2 ^ k) * (size / 2 ^ (2 * k + 1)) in
    let w = size / 2 ^ (2 * j + 1) in
    let few : n - 2 ^ j + 1 ≤ m - 2 ^ j = omega (arith, a.low, less) in
    let most : (n - 2 ^ j + 1) * w ≤ (m - 2 ^ j) * w = mul-le-mul_right w few in
    let spread : (n - 2 ^ j + 1) * w ≡ (n - 2 ^ j) * w + w = omega arith in
    subst P same (omega (arith, most, spread))

-- the keys of a number end before those of a greater one begin
pub apart : (n m size : ℕ) → 0 < n → n < m → m < 2 ^ 32 → start n size + width n size ≤ start m size
apart n m size some less few =
    let a = level_is n some (omega (arith, less, few)) in
    let b = level_is m (omega arith) few in
    elim (cases_eq (level n) (level m)) [
      | inl same ↦ apart_same n m size (level n) (level m) same a b less
      | inr other ↦ elim (cases_lt (level n) (level m)) [
        | inl lower ↦
            (let e = ends_by n (level n) size a in
            let h = antitone size (level n + 1) (level m) (omega (arith, lower)) in
            omega (arith, e, h))
        | inr higher ↦
            absurd
            (let above : 2 ^ (level m + 1) ≤ 2 ^ level n = pow-le-pow_right (omega arith) (omega (arith, higher, other)) in
            omega (arith, above, a.low, b.high, less))
      ]
    ]

pub within : (n size : ℕ) → 0 < n → n < 2 ^ 32 → start n size + width n size ≤ size
within n size some few = (let e = ends_by n (level n) size (level_is n some few) in omega (arith, e))

-- of keys within two numbers' ranges, the lesser is that of the lesser number, or the lesser one of the same number
pub split_less : (n m size x y : ℕ) → 0 < n → n < 2 ^ 32 → 0 < m → m < 2 ^ 32 → x ≤ width n size → y ≤ width m size → start n size + x < start m size + y → (n < m) ⊎ ((n ≡ m) × (x < y))
split_less n m size x y some few also no_more x_in y_in less = elim (cases_lt n m) [
  | inl lower ↦ inl lower
  | inr ge ↦ elim (cases_eq n m) [
    | inl same ↦ inr (same, (let is : start n size ≡ start m size = ap (λ k. start k size) same in omega (arith, is, less)))
    | inr other ↦ absurd (let a = apart m n size also (omega (arith, ge, other)) few in omega (arith, a, y_in, less))
  ]
]

-- equal keys that leave room within both ranges are of one number
pub split_same : (n m size x y : ℕ) → 0 < n → n < 2 ^ 32 → 0 < m → m < 2 ^ 32 → x < width n size → y < width m size → start n size + x ≡ start m size + y → (n ≡ m) × (x ≡ y)
split_same n m size x y some few also no_more x_in y_in is = elim (cases_lt n m) [
  | inl lower ↦ absurd (let a = apart n m size some lower no_more in omega (arith, a, x_in, is))
  | inr ge ↦ elim (cases_eq n m) [
    | inl same ↦ (same, (let at : start n size ≡ start m size = ap (λ k. start k size) same in omega (arith, is, at)))
    | inr other ↦ absurd (let a = apart m n size also (omega (arith, ge, other)) few in omega (arith, a, y_in, is))
  ]
]

-- how far so many steps reach
pub record Reaches (e x i : ℕ) : Type 0 where
  pub reach : x ≤ e * i
  pub least : e * i < x + e

pub gap_is : (e x : ℕ) → 1 ≤ e → 1 ≤ x → Reaches e x (gap e x)
gap_is e x some more =
    let most = mul-div-le (x + e - 1) e in
    let over : x + e - 1 < (x + e - 1) / e * e + e = lt-div-mul-add (omega (arith, some)) in
    let turned : (x + e - 1) / e * e ≡ e * ((x + e - 1) / e) = omega arith in
    record { reach = omega (arith, over, turned, some); least = omega (arith, most, more, some) }

pub level_unique : (n j : ℕ) → 0 < n → n < 2 ^ 32 → 2 ^ j ≤ n → n < 2 * 2 ^ j → j ≡ level n
level_unique n j some few low high =
    let at = level_is n some few in
    let next : 2 ^ (j + 1) ≡ 2 ^ j * 2 = pow_more 2 j in
    elim (cases_eq j (level n)) [
      | inl same ↦ same
      | inr other ↦ elim (cases_lt j (level n)) [
        | inl lower ↦ absurd (let above : 2 ^ (j + 1) ≤ 2 ^ level n = pow-le-pow_right (omega arith) (omega (arith, lower)) in omega (arith, above, next, at.low, high))
        | inr higher ↦ absurd (let above : 2 ^ (level n + 1) ≤ 2 ^ j = pow-le-pow_right (omega arith) (omega (arith, higher, other)) in omega (arith, above, at.high, low))
      ]
    ]

pub level_small : (n j : ℕ) → 2 ^ j ≤ n → n ≤ 2 ^ 20 → j ≤ 20
level_small n j low few = elim (cases_lt 20 j) [
  | inl over ↦ absurd (let above : 2 ^ 21 ≤ 2 ^ j = pow-le-pow_right {n = 2} (omega arith) {i = 21} {j = j} (omega (arith, over)) in omega (arith, above, low, few))
  | inr ge ↦ ge
]
