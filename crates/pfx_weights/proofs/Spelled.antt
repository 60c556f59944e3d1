-- The bytes of the number that bytes spell are these bytes.
use Rattle.std.proofs.Common.{◌≡◌, ◌≤◌, ◌<◌, ℕ, zero, suc, ◌+◌, ◌*◌, ◌/◌, ◌%◌, ◌^◌, List, [], ◌∷◌, length, take, refl, sym, ◌∙◌, ap, arith}
use Rattle.std.specs.Prelude.{All}
use Rattle.std.proofs.Math.Nat.{div-div-eq-div-mul, div-one, pow-succ'}
use Rattle.std.specs.Int.{byte_at, bytes_low_first}
use Rattle.byteorder.specs.Endian.{little_from, little_bytes, little_number}
use Rattle.byteorder.specs.Numbers.{little_from-cons}

byte_at-pow : (i n : ℕ) → byte_at i n ≡ n / 256 ^ i % 256
byte_at-pow zero n = ap (λ (q : ℕ). q % 256) (sym (div-one n))
byte_at-pow (suc i) n = refl

byte_up : (i x r : ℕ) → x < 256 → byte_at (suc i) (x + 256 * r) ≡ byte_at i r
byte_up i x r small =
    ap (λ (p : ℕ). (x + 256 * r) / p % 256) (pow-succ' 256 i) ∙ ap (λ (q : ℕ). q % 256) (sym (div-div-eq-div-mul (x + 256 * r) 256 (256 ^ i)))
    ∙ ap (λ (q : ℕ). q / 256 ^ i % 256) (whole x r small) ∙ sym (byte_at-pow i r)
  where
    whole : (x r : ℕ) → x < 256 → (x + 256 * r) / 256 ≡ r
    whole x r small = omega arith

bytes_up : (n i x r : ℕ) → x < 256 → bytes_low_first (suc i) n (x + 256 * r) ≡ bytes_low_first i n r
bytes_up zero i x r small = refl
bytes_up (suc n) i x r small = ap (λ (b : ℕ). b ∷ bytes_low_first (suc (suc i)) n (x + 256 * r)) (byte_up i x r small) ∙ ap (λ (l : List ℕ). byte_at i r ∷ l) (bytes_up n (suc i) x r small)

again_from : (n : ℕ) (xs : List ℕ) → n ≤ length xs → All (λ b. b < 256) xs → bytes_low_first 0 n (little_from 0 n xs) ≡ take n xs
again_from zero xs long small = refl
again_from (suc n) [] long small = absurd (omega arith)
again_from (suc n) (x ∷ xs) long small =
    let first : x < 256 = small 0 x (omega arith) in
    ap (λ (r : ℕ). bytes_low_first 0 (suc n) (x + 256 * r)) (little_from-cons 0 n x xs)
    ∙ ap (λ (b : ℕ). b ∷ bytes_low_first 1 n (x + 256 * little_from 0 n xs)) (low x (little_from 0 n xs) first)
    ∙ ap (λ (l : List ℕ). x ∷ l) (bytes_up n 0 x (little_from 0 n xs) first ∙ again_from n xs (omega arith) (λ i d b. small (suc i) d (omega arith)))
  where
    low : (x r : ℕ) → x < 256 → (x + 256 * r) % 256 ≡ x
    low x r below = omega arith

pub again : (n : ℕ) (xs : List ℕ) → n ≤ length xs → All (λ b. b < 256) xs → little_bytes n (little_number n xs) ≡ take n xs
again n xs long small = again_from n xs long small
