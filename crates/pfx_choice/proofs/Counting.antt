-- Bytes counted sixteen at a time.
use Rattle.std.proofs.Common.{◌≡◌, ℕ, zero, suc, ◌+◌, ◌≤◌, Bool, true, false, cond, List, length, take, drop, length-take, slice_index_or, arith, ap, sym, ◌∙◌, refl, inl, inr}
use Rattle.std.specs.List.{count_by}
use Rattle.std.proofs.Math.Seq.{take-add}
use Rattle.std.proofs.lemmas.Bool.{cases_Bool}
use Rattle.std.proofs.lemmas.List.Sums.{sum_by-append, count_by-le-length, count_by_more_yes, count_by_more_no}
use Rattle.pfx_weights.specs.Rows.{count, one}

-- what is counted up to a place, and in the next ones, is what is counted up to these
pub counted_more : (p : ℕ → Bool) (xs : List ℕ) (at n : ℕ) → count_by p (take at xs) + count_by p (take n (drop at xs)) ≡ count_by p (take (at + n) xs)
counted_more p xs at n = sym (ap (count_by p) (take-add at n xs) ∙ sum_by-append (λ x. cond (p x) 1 0) (take at xs) (take n (drop at xs)))

ends : (n : ℕ) → n ≡ n + one false
ends n = omega arith

-- as many pass a test among the items as among their places
pub counted_at : (p : ℕ → Bool) (xs : List ℕ) (n : ℕ) → n ≤ length xs → count_by p (take n xs) ≡ count n (λ x. p (slice_index_or xs x 0))
counted_at p xs zero h = refl
counted_at p xs (suc n) h =
    let q : ℕ → Bool = λ x. p (slice_index_or xs x 0) in
    let z : suc n ≡ n + 1 = omega arith in
    let before = counted_at p xs n (omega (arith, h)) in
    ap (λ k. count_by p (take k xs)) z ∙ elim (cases_Bool (p (slice_index_or xs n 0))) [
      | inl is ↦ count_by_more_yes p xs n 0 (omega (arith, h)) is ∙ ap (λ k. k + 1) before ∙ ap (λ b. count n q + one b) (sym is)
      | inr not ↦ count_by_more_no p xs n 0 (omega (arith, h)) not ∙ before ∙ ends (count n q) ∙ ap (λ b. count n q + one b) (sym not)
    ]

-- sixteen items have at most sixteen that pass
pub counted_few : (p : ℕ → Bool) (xs : List ℕ) → count_by p (take 16 xs) ≤ 16
counted_few p xs = (let most = count_by-le-length p (take 16 xs) in let long = length-take 16 xs in omega (arith, most, long))
