-- The numbers and the bytes of a sum.
use Rattle.std.specs.Prelude.{◌≡◌, ℕ, ◌+◌, ◌%◌, ◌^◌, ◌<◌, Bool, ◌&&◌, nat_lt, List, ◌∷◌, ◌++◌, length, replicate, drop, IsTrue, refl}
use Rattle.std.proofs.Common.{arith, suc, ap, ◌∙◌}
use Rattle.std.proofs.lemmas.Bool.Decides.{nat_tests}
use Rattle.byteorder.specs.Endian.{little_bytes, little_number}
use Rattle.byteorder.specs.Numbers.{little_number-reads_back}

pub record SumFields : Type 0 where
  -- the numbers left
  pub left : ℕ
  -- the sum so far
  pub total : ℕ

-- the numbers fit their types
abbrev pub sum_fits : ℕ → ℕ → Bool
sum_fits left total = nat_lt left (2 ^ 32) && nat_lt total (2 ^ 64)

-- the sum with a number more, of which numbers of 64 bits keep what fits
abbrev pub summed : ℕ → ℕ → ℕ
summed total number = (total + number) % 2 ^ 64

-- the 128 bytes: the kind 201, the numbers left, the sum so far, and zeros
unfoldable pub sum_bytes : SumFields → List ℕ
sum_bytes f = (201 ∷ little_bytes 4 f.left ++ little_bytes 8 f.total) ++ replicate 115 0

-- the numbers at their places in bytes
abbrev pub sum_found : List ℕ → SumFields
sum_found bytes = record { left = little_number 4 (drop 1 bytes); total = little_number 8 (drop 5 bytes) }

-- ---- ranges and bytes

sum_fits-left : (left total : ℕ) → IsTrue (sum_fits left total) → left < 2 ^ 32
sum_fits-left left total h = grind (arith, nat_tests)

sum_fits-total : (left total : ℕ) → IsTrue (sum_fits left total) → total < 2 ^ 64
sum_fits-total left total h = grind (arith, nat_tests)

sum_fits-from : (left total : ℕ) → left < 2 ^ 32 → total < 2 ^ 64 → IsTrue (sum_fits left total)
sum_fits-from left total h k = grind (arith, nat_tests)

-- a step keeps the range
pub sum_fits-step : (n total : ℕ) → IsTrue (sum_fits (suc n) total) → IsTrue (sum_fits n (summed total (suc n)))
sum_fits-step n total h = let small = sum_fits-left (suc n) total h in sum_fits-from n (summed total (suc n)) (omega arith) (omega arith)

-- the numbers are found again in their bytes
abbrev made : ℕ → ℕ → SumFields
made left total = record { left = left; total = total }

same_fields : (l t left total : ℕ) → l ≡ left → t ≡ total → made l t ≡ made left total
same_fields l t left total e f = ap (λ x. made x t) e ∙ ap (λ x. made left x) f

pub sum_found-sum_bytes : (left total : ℕ) → IsTrue (sum_fits left total)
    → sum_found (sum_bytes (record { left = left; total = total })) ≡ record { left = left; total = total }
unfolding sum_bytes
sum_found-sum_bytes left total h =
    let a = sum_fits-left left total h in
    let b = sum_fits-total left total h in
    same_fields _ _ left total
    (little_number-reads_back 4 left (little_bytes 8 total ++ replicate 115 0) (omega arith))
    (little_number-reads_back 8 total (replicate 115 0) (omega arith))

pub length-sum_bytes : (f : SumFields) → length (sum_bytes f) ≡ 128
unfolding sum_bytes
length-sum_bytes f = refl
