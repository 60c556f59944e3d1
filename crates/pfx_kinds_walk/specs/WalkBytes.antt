-- The ranges and the bytes of a Walk.
use Rattle.std.specs.Prelude.{◌≡◌, ℕ, ◌+◌, ◌-◌, ◌%◌, ◌^◌, ◌<◌, Bool, true, false, nat_lt, if◌then◌else◌, ◌++◌, length, replicate, IsTrue, refl}
use Rattle.std.proofs.Common.{arith, suc, ap, ◌∙◌}
use Rattle.std.proofs.lemmas.Bool.Decides.{nat_tests}
use Rattle.byteorder.specs.Endian.{little_bytes}
use Rattle.byteorder.specs.Numbers.{little_number-reads_back}
use Rattle.pfx_kinds_walk.specs.Walks.{WalkFields, walk_fits, drawn, moved, walk_bytes, walk_found}

-- the test by comparisons
pub walk_fits-left : (left seed place : ℕ) → IsTrue (walk_fits left seed place) → left < 2 ^ 32
walk_fits-left left seed place h = grind (arith, nat_tests)

pub walk_fits-seed : (left seed place : ℕ) → IsTrue (walk_fits left seed place) → seed < 2 ^ 64
walk_fits-seed left seed place h = grind (arith, nat_tests)

pub walk_fits-place : (left seed place : ℕ) → IsTrue (walk_fits left seed place) → place < 2 ^ 64
walk_fits-place left seed place h = grind (arith, nat_tests)

pub walk_fits-from : (left seed place : ℕ) → left < 2 ^ 32 → seed < 2 ^ 64 → place < 2 ^ 64 → IsTrue (walk_fits left seed place)
walk_fits-from left seed place h k l = grind (arith, nat_tests)

-- what is drawn, and where it leads, fit
pub drawn-lt : (seed : ℕ) → drawn seed < 2 ^ 64
unfolding drawn
drawn-lt seed = omega arith

either-lt : (b : Bool) (n m k : ℕ) → n < k → m < k → (if b then n else m) < k
either-lt true n m k h j = h
either-lt false n m k h j = j

pub moved-lt : (place number : ℕ) → moved place number < 2 ^ 64
unfolding moved
moved-lt place number = either-lt (nat_lt number (2 ^ 63)) ((place + (2 ^ 64 - 1)) % 2 ^ 64) ((place + 1) % 2 ^ 64) (2 ^ 64) (omega arith) (omega arith)

-- a step keeps the range
pub walk_fits-step : (n seed place : ℕ) → IsTrue (walk_fits (suc n) seed place) → IsTrue (walk_fits n (drawn seed) (moved place (drawn seed)))
walk_fits-step n seed place h =
    let small = walk_fits-left (suc n) seed place h in
    walk_fits-from n (drawn seed) (moved place (drawn seed)) (omega arith) (drawn-lt seed) (moved-lt place (drawn seed))

-- the numbers are found again in their bytes
abbrev made : ℕ → ℕ → ℕ → WalkFields
made left seed place = record { left = left; seed = seed; place = place }

same_fields : (l s p left seed place : ℕ) → l ≡ left → s ≡ seed → p ≡ place → made l s p ≡ made left seed place
same_fields l s p left seed place e f g = ap (λ x. made x s p) e ∙ (ap (λ x. made left x p) f ∙ ap (λ x. made left seed x) g)

pub walk_found-walk_bytes : (left seed place : ℕ) → IsTrue (walk_fits left seed place)
    → walk_found (walk_bytes (record { left = left; seed = seed; place = place })) ≡ record { left = left; seed = seed; place = place }
unfolding walk_bytes
walk_found-walk_bytes left seed place h =
    let a = walk_fits-left left seed place h in
    let b = walk_fits-seed left seed place h in
    let c = walk_fits-place left seed place h in
    same_fields _ _ _ left seed place
    (little_number-reads_back 4 left (little_bytes 8 seed ++ little_bytes 8 place ++ replicate 107 0) (omega arith))
    (little_number-reads_back 8 seed (little_bytes 8 place ++ replicate 107 0) (omega arith))
    (little_number-reads_back 8 place (replicate 107 0) (omega arith))

pub length-walk_bytes : (f : WalkFields) → length (walk_bytes f) ≡ 128
unfolding walk_bytes
length-walk_bytes f = refl
