-- A fair matrix to begin with: by slot t each task has had the whole part of e*t/p.
use Rattle.std.proofs.Common.{◌≡◌, ℕ, zero, suc, ◌+◌, ◌*◌, ◌/◌, ◌%◌, ◌<◌, ◌≤◌, nat_lt, Bool, true, false, arith, ap, inl, inr}
use Rattle.std.proofs.Math.Nat.{div-add-mod, mod-lt, lt_of_mul-lt-mul_left}
use Rattle.std.proofs.lemmas.Bool.{cases_lt}
use Rattle.std.proofs.lemmas.Grind.{common_steps}
use Rattle.pfx_weights.specs.Rows.{one, count}

-- the slots at which the whole part of e*t/p rises
abbrev pub first : ℕ → ℕ → ℕ → Bool
first e p t = nat_lt (e * t / p) (e * suc t / p)

is_less : (a b : ℕ) → a < b → nat_lt a b ≡ true
is_less a b h = grind (arith, common_steps)

is_not_less : (a b : ℕ) → b ≤ a → nat_lt a b ≡ false
is_not_less a b h = grind (arith, common_steps)

one_more : (a b : ℕ) → a ≤ b → b ≤ a + 1 → a + one (nat_lt a b) ≡ b
one_more a b low high = elim (cases_lt a b) [
  | inl l ↦ (let h : one (nat_lt a b) ≡ 1 = ap one (is_less a b l) in omega arith)
  | inr k ↦ (let h : one (nat_lt a b) ≡ 0 = ap one (is_not_less a b k) in omega arith)
]

pub count-first : (e p : ℕ) → 0 < p → e ≤ p → (t : ℕ) → count t (first e p) ≡ e * t / p
count-first e p pos le zero =
    let d : p * (e * 0 / p) + (e * 0) % p ≡ e * 0 = div-add-mod (e * 0) p in
    let l : e * 0 / p < 1 = lt_of_mul-lt-mul_left p (omega arith) in
    omega arith
count-first e p pos le (suc t) =
    let a : count t (first e p) ≡ e * t / p = count-first e p pos le t in
    let q = e * t / p in
    let r = e * suc t / p in
    let d : p * q + (e * t) % p ≡ e * t = div-add-mod (e * t) p in
    let k : (e * t) % p < p = mod-lt (e * t) pos in
    let d2 : p * r + (e * suc t) % p ≡ e * suc t = div-add-mod (e * suc t) p in
    let k2 : (e * suc t) % p < p = mod-lt (e * suc t) pos in
    let x : q < r + 1 = lt_of_mul-lt-mul_left p (omega arith) in
    let y : r < q + 2 = lt_of_mul-lt-mul_left p (omega arith) in
    let z : q + one (nat_lt q r) ≡ r = one_more q r (omega arith) (omega arith) in
    omega arith

pub first_fair : (e p : ℕ) → 0 < p → e ≤ p → (t : ℕ) → (p * count t (first e p) < e * t + p) × (e * t < p * count t (first e p) + p)
first_fair e p pos le t =
    let a : p * count t (first e p) ≡ p * (e * t / p) = ap (λ z. p * z) (count-first e p pos le t) in
    let d : p * (e * t / p) + (e * t) % p ≡ e * t = div-add-mod (e * t) p in
    let k : (e * t) % p < p = mod-lt (e * t) pos in
    (omega arith, omega arith)
