-- Sums over the numbers below n.
use Rattle.std.proofs.Common.{◌≡◌, ℕ, zero, suc, ◌+◌, ◌*◌, ◌<◌, ◌≤◌, Bool, arith, ◌∙◌, refl, subst, inl, inr}
use Rattle.std.proofs.lemmas.Bool.{cases_eq}
use Rattle.pfx_weights.specs.Rows.{one, count}

abbrev pub total_of : ℕ → (ℕ → ℕ) → ℕ
total_of zero f = 0
total_of (suc n) f = total_of n f + f n

pub total-le : (n : ℕ) (f g : ℕ → ℕ) → ((x : ℕ) → x < n → f x ≤ g x) → total_of n f ≤ total_of n g
total-le zero f g h = omega arith
total-le (suc n) f g h =
    let a : total_of n f ≤ total_of n g = total-le n f g (λ x l. h x (omega arith)) in
    let b = h n (omega arith) in
    omega (arith, b)

pub total-same : (n : ℕ) (f g : ℕ → ℕ) → ((x : ℕ) → x < n → f x ≡ g x) → total_of n f ≡ total_of n g
total-same zero f g h = refl
total-same (suc n) f g h =
    let a : total_of n f ≡ total_of n g = total-same n f g (λ x l. h x (omega arith)) in
    let b = h n (omega arith) in
    omega (arith, b)

pub total-less : (n : ℕ) (f g : ℕ → ℕ) (y : ℕ) → ((x : ℕ) → x < n → f x ≤ g x) → y < n → f y < g y → total_of n f < total_of n g
total-less zero f g y h l k = absurd (omega arith)
total-less (suc n) f g y h l k =
    let b = h n (omega arith) in
    elim (cases_eq y n) [
      | inl same ↦
          (let a : total_of n f ≤ total_of n g = total-le n f g (λ x m. h x (omega arith)) in
          let c : f n < g n = subst (λ z. f z < g z) same k in
          omega arith)
      | inr other ↦
          (let a : total_of n f < total_of n g = total-less n f g y (λ x m. h x (omega arith)) (omega arith) k in
          omega (arith, b))
    ]

pub total-add : (n : ℕ) (f g : ℕ → ℕ) → total_of n (λ x. f x + g x) ≡ total_of n f + total_of n g
total-add zero f g = refl
total-add (suc n) f g = (let a : total_of n (λ x. f x + g x) ≡ total_of n f + total_of n g = total-add n f g in omega arith)

pub total-zero : (n : ℕ) → total_of n (λ x. 0) ≡ 0
total-zero zero = refl
total-zero (suc n) = (let a : total_of n (λ x. 0) ≡ 0 = total-zero n in omega arith)

pub total-const : (n k : ℕ) → total_of n (λ x. k) ≡ k * n
total-const zero k = omega arith
total-const (suc n) k = (let a : total_of n (λ x. k) ≡ k * n = total-const n k in omega arith)

pub total-times : (n k : ℕ) (f : ℕ → ℕ) → total_of n (λ x. k * f x) ≡ k * total_of n f
total-times zero k f = omega arith
total-times (suc n) k f = (let a : total_of n (λ x. k * f x) ≡ k * total_of n f = total-times n k f in omega arith)

pub total-ones : (n : ℕ) (s : ℕ → Bool) → total_of n (λ x. one (s x)) ≡ count n s
total-ones zero s = refl
total-ones (suc n) s = (let a : total_of n (λ x. one (s x)) ≡ count n s = total-ones n s in omega arith)

-- row by row as column by column
pub total-twice : (n t : ℕ) (G : ℕ → ℕ → Bool) → total_of t (λ s. count n (λ x. G x s)) ≡ total_of n (λ x. count t (G x))
total-twice zero t G = total-zero t
total-twice (suc n) t G =
    let a : total_of t (λ s. count n (λ x. G x s) + one (G n s)) ≡ total_of t (λ s. count n (λ x. G x s)) + total_of t (λ s. one (G n s)) = total-add t (λ s. count n (λ x. G x s)) (λ s. one (G n s)) in
    let b : total_of t (λ s. one (G n s)) ≡ count t (G n) = total-ones t (G n) in
    let c : total_of t (λ s. count n (λ x. G x s)) ≡ total_of n (λ x. count t (G x)) = total-twice n t G in
    a ∙ omega arith
