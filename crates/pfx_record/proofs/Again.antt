-- The bytes of the number that bytes spell are these bytes.
use Rattle.std.proofs.Common.{◌≡◌, ◌≤◌, ◌<◌, ℕ, zero, suc, ◌+◌, ◌*◌, ◌/◌, ◌%◌, ◌^◌, List, [], ◌∷◌, ◌++◌, length, get_or, take, drop, refl, sym, ◌∙◌, ap, arith}
use Rattle.std.proofs.Math.Nat.{div-div-eq-div-mul, div-one, pow-succ'}
use Rattle.std.specs.Int.{byte_at, bytes_low_first}
use Rattle.byteorder.specs.Endian.{little_from, little_number}
use Rattle.byteorder.specs.Numbers.{little_from-cons, length-bytes_low_first, little_number-reads_back}
use Rattle.std.proofs.lemmas.List.{take-append-drop}
use Rattle.pfx_record.specs.Begins.{Begins}
use Rattle.pfx_record.specs.Numbers.{number_bytes}

byte_at-pow : (i n : ℕ) → byte_at i n ≡ n / 256 ^ i % 256
byte_at-pow zero n = ap (λ (q : ℕ). q % 256) (sym (div-one n))
byte_at-pow (suc i) n = refl

byte_up : (i x r : ℕ) → x < 256 → byte_at (suc i) (x + 256 * r) ≡ byte_at i r
byte_up i x r small =
    ap (λ (p : ℕ). (x + 256 * r) / p % 256) (pow-succ' 256 i) ∙ ap (λ (q : ℕ). q % 256) (sym (div-div-eq-div-mul (x + 256 * r) 256 (256 ^ i)))
    ∙ ap (λ (q : ℕ). q / 256 ^ i % 256) (whole x r small) ∙ sym (byte_at-pow i r)
  where
    whole : (x r : ℕ) → x < 256 → (x + 256 * r) / 256 ≡ r
    whole x r small = omega arith

bytes_up : (n i x r : ℕ) → x < 256 → bytes_low_first (suc i) n (x + 256 * r) ≡ bytes_low_first i n r
bytes_up zero i x r small = refl
bytes_up (suc n) i x r small = ap (λ (b : ℕ). b ∷ bytes_low_first (suc (suc i)) n (x + 256 * r)) (byte_up i x r small) ∙ ap (λ (l : List ℕ). byte_at i r ∷ l) (bytes_up n (suc i) x r small)

again : (n : ℕ) (xs : List ℕ) → n ≤ length xs → ((i : ℕ) → get_or xs i 0 < 256) → bytes_low_first 0 n (little_from 0 n xs) ≡ take n xs
again zero xs long small = refl
again (suc n) [] long small = absurd (omega arith)
again (suc n) (x ∷ xs) long small =
    ap (λ (r : ℕ). bytes_low_first 0 (suc n) (x + 256 * r)) (little_from-cons 0 n x xs)
    ∙ ap (λ (b : ℕ). b ∷ bytes_low_first 1 n (x + 256 * little_from 0 n xs)) (low x (little_from 0 n xs) (small 0))
    ∙ ap (λ (l : List ℕ). x ∷ l) (bytes_up n 0 x (little_from 0 n xs) (small 0) ∙ again n xs (omega arith) (λ i. small (suc i)))
  where
    low : (x r : ℕ) → x < 256 → (x + 256 * r) % 256 ≡ x
    low x r below = omega arith

-- what was read is written so
pub wrote_again : (n : ℕ) (xs : List ℕ) (x : ℕ) → n ≤ length xs → ((i : ℕ) → get_or xs i 0 < 256) → x ≡ little_number n xs → take n xs ≡ number_bytes n x
unfolding number_bytes
wrote_again n xs x long small is = sym (ap (λ (k : ℕ). bytes_low_first 0 n k) is ∙ again n xs long small)

pub length-number_bytes : (n x : ℕ) → length (number_bytes n x) ≡ n
unfolding number_bytes
length-number_bytes n x = length-bytes_low_first 0 n x

-- what was read stands there
pub begins_number : (n : ℕ) (xs : List ℕ) (x : ℕ) → n ≤ length xs → ((i : ℕ) → get_or xs i 0 < 256) → x ≡ little_number n xs → Begins xs (number_bytes n x)
begins_number n xs x long small is = record {
  rest = drop n xs;
  is = sym (take-append-drop n xs) ∙ ap (λ (l : List ℕ). l ++ drop n xs) (wrote_again n xs x long small is);
}

-- a number is known by its bytes
pub number_back : (n x y : ℕ) → x < 256 ^ n → y < 256 ^ n → number_bytes n x ≡ number_bytes n y → x ≡ y
unfolding number_bytes
number_back n x y small_x small_y same =
    sym (little_number-reads_back n x [] small_x) ∙ ap (λ (l : List ℕ). little_from 0 n (l ++ [])) same ∙ little_number-reads_back n y [] small_y
