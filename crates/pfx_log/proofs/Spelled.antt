-- The bytes of the number that bytes spell are these bytes.
use Rattle.std.proofs.Common.{◌≡◌, ◌≤◌, ◌<◌, ℕ, zero, suc, ◌+◌, ◌*◌, ◌/◌, ◌%◌, ◌^◌, List, [], ◌∷◌, ◌++◌, length, get_or, take, drop, refl, sym, ◌∙◌, ap, subst, arith}
use Rattle.pfx_log.specs.Logs.{AreBytes}
use Rattle.std.proofs.Math.Nat.{div-div-eq-div-mul, div-one, pow-succ'}
use Rattle.std.specs.Int.{byte_at, bytes_low_first}
use Rattle.std.proofs.lemmas.List.{take-append-drop, take_all, drop-drop, length-drop}
use Rattle.std.proofs.lemmas.List.Elements.{All-drop}
use Rattle.std.proofs.lemmas.Grind.{get_or_default_zero}
use Rattle.byteorder.specs.Endian.{little_from, little_bytes, little_number}
use Rattle.byteorder.specs.Numbers.{little_from-cons}

byte_at-pow : (i n : ℕ) → byte_at i n ≡ n / 256 ^ i % 256
byte_at-pow zero n = ap (λ (q : ℕ). q % 256) (sym (div-one n))
byte_at-pow (suc i) n = refl

byte_up : (i x r : ℕ) → x < 256 → byte_at (suc i) (x + 256 * r) ≡ byte_at i r
byte_up i x r small =
    ap (λ (p : ℕ). (x + 256 * r) / p % 256) (pow-succ' 256 i) ∙ ap (λ (q : ℕ). q % 256) (sym (div-div-eq-div-mul (x + 256 * r) 256 (256 ^ i)))
    ∙ ap (λ (q : ℕ). q / 256 ^ i % 256) (whole x r small) ∙ sym (byte_at-pow i r)
  where
    whole : (x r : ℕ) → x < 256 → (x + 256 * r) / 256 ≡ r
    whole x r small = omega arith

bytes_up : (n i x r : ℕ) → x < 256 → bytes_low_first (suc i) n (x + 256 * r) ≡ bytes_low_first i n r
bytes_up zero i x r small = refl
bytes_up (suc n) i x r small = ap (λ (b : ℕ). b ∷ bytes_low_first (suc (suc i)) n (x + 256 * r)) (byte_up i x r small) ∙ ap (λ (l : List ℕ). byte_at i r ∷ l) (bytes_up n (suc i) x r small)

again_from : (n : ℕ) (xs : List ℕ) → n ≤ length xs → AreBytes xs → bytes_low_first 0 n (little_from 0 n xs) ≡ take n xs
again_from zero xs long small = refl
again_from (suc n) [] long small = absurd (omega arith)
again_from (suc n) (x ∷ xs) long small =
    let first : x < 256 = small 0 x (omega arith) in
    ap (λ (r : ℕ). bytes_low_first 0 (suc n) (x + 256 * r)) (little_from-cons 0 n x xs)
    ∙ ap (λ (b : ℕ). b ∷ bytes_low_first 1 n (x + 256 * little_from 0 n xs)) (low x (little_from 0 n xs) first)
    ∙ ap (λ (l : List ℕ). x ∷ l) (bytes_up n 0 x (little_from 0 n xs) first ∙ again_from n xs (omega arith) (λ i d b. small (suc i) d (omega arith)))
  where
    low : (x r : ℕ) → x < 256 → (x + 256 * r) % 256 ≡ x
    low x r below = omega arith

pub again : (n : ℕ) (xs : List ℕ) → n ≤ length xs → AreBytes xs → little_bytes n (little_number n xs) ≡ take n xs
again n xs long small = again_from n xs long small

-- the first n bytes, and what is behind them
pub number_split : (n : ℕ) (xs : List ℕ) → n ≤ length xs → AreBytes xs → xs ≡ little_bytes n (little_number n xs) ++ drop n xs
number_split n xs long small = sym (take-append-drop n xs) ∙ ap (λ t. t ++ drop n xs) (sym (again n xs long small))

-- 24 bytes are three numbers
pub three : (xs : List ℕ) → length xs ≡ 24 → AreBytes xs → xs ≡ little_bytes 8 (little_number 8 xs) ++ (little_bytes 8 (little_number 8 (drop 8 xs)) ++ little_bytes 8 (little_number 8 (drop 16 xs)))
three xs long small =
    let l8 : length (drop 8 xs) ≡ 16 = length-drop 8 xs ∙ omega (arith, long) in
    let l16 : length (drop 16 xs) ≡ 8 = length-drop 16 xs ∙ omega (arith, long) in
    let a = number_split 8 xs (omega (arith, long)) small in
    let b = number_split 8 (drop 8 xs) (omega (arith, l8)) (All-drop (λ b. b < 256) 8 xs small) in
    let c = again 8 (drop 16 xs) (omega (arith, l16)) (All-drop (λ b. b < 256) 16 xs small) ∙ take_all 8 (drop 16 xs) (omega (arith, l16)) in
    a ∙ ap (λ t. little_bytes 8 (little_number 8 xs) ++ t) (b ∙ ap (λ t. little_bytes 8 (little_number 8 (drop 8 xs)) ++ t) (drop-drop 8 8 xs ∙ sym c))

pub small_bytes : (xs : List ℕ) → ((i : ℕ) → get_or xs i 0 < 256) → AreBytes xs
small_bytes xs small i d below = subst (λ (b : ℕ). b < 256) (sym (get_or_default_zero xs i d below)) (small i)

pub numbers_are : (xs : List ℕ) (a b c : ℕ) → length xs ≡ 24 → ((i : ℕ) → get_or xs i 0 < 256) → a ≡ little_number 8 xs → b ≡ little_number 8 (drop 8 xs) → c ≡ little_number 8 (drop 16 xs)
    → xs ≡ little_bytes 8 a ++ (little_bytes 8 b ++ little_bytes 8 c)
numbers_are xs a b c long small is_a is_b is_c = three xs long (small_bytes xs small) ∙ (λ i. little_bytes 8 (sym is_a i) ++ (little_bytes 8 (sym is_b i) ++ little_bytes 8 (sym is_c i)))
