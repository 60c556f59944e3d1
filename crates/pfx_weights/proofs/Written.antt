-- Weights that are written are read, and those that are read were written.
use Rattle.std.specs.Prelude.{◌≡◌, ℕ, zero, suc, ◌+◌, ◌*◌, ◌%◌, ◌^◌, ◌<◌, ◌≤◌, List, [], ◌∷◌, ◌++◌, length, drop, All, refl}
use Rattle.std.proofs.Common.{sym, ◌∙◌, ap, arith, append_assoc, append-nil, length-append, inl, inr}
use Rattle.std.proofs.Math.Nat.{mod-eq_of_lt}
use Rattle.std.proofs.Math.Seq.{drop-append_seam}
use Rattle.std.proofs.lemmas.Bool.{cases_lt}
use Rattle.std.proofs.lemmas.List.{take-append-drop, drop-drop, length-drop}
use Rattle.std.proofs.lemmas.List.Elements.{All-drop}
use Rattle.byteorder.specs.Endian.{little_bytes, little_number}
use Rattle.byteorder.specs.Numbers.{little_number-reads_back}
use Rattle.pfx_weights.specs.Bytes.{weight_bytes, weights_bytes, weight_of, weights_of}
use Rattle.pfx_weights.specs.Multiples.{IsMultiple}
use Rattle.pfx_weights.specs.Sets.{FilledSet, Accepts, IsWeight}
use Rattle.pfx_weights.proofs.Spelled.{again}

pub length-weights : (weights : List (ℕ × ℕ)) → length (weights_bytes weights) ≡ 8 * length weights
length-weights [] = refl
length-weights (w ∷ weights) = let rest = length-weights weights in length-append (weight_bytes w) (weights_bytes weights) ∙ omega arith

pub length-weights_of : (n : ℕ) (bytes : List ℕ) → length (weights_of n bytes) ≡ n
length-weights_of zero bytes = refl
length-weights_of (suc n) bytes = ap suc (length-weights_of n (drop 8 bytes))

-- what is written is read

-- both numbers have room in four bytes
abbrev pub Small : ℕ × ℕ → Type 0
Small w = (w.0 < 2 ^ 32) × (w.1 < 2 ^ 32)

weight_back : (w : ℕ × ℕ) (rest : List ℕ) → Small w → weight_of (weight_bytes w ++ rest) ≡ w
weight_back w rest small =
    let first : little_number 4 (weight_bytes w ++ rest) ≡ w.0 = little_number-reads_back 4 w.0 (little_bytes 4 w.1 ++ rest) small.0 in
    let second : little_number 4 (drop 4 (weight_bytes w ++ rest)) ≡ w.1 = little_number-reads_back 4 w.1 rest small.1 in
    λ i. (first i, second i)

pub weights_back : (weights : List (ℕ × ℕ)) (rest : List ℕ) → All Small weights → weights_of (length weights) (weights_bytes weights ++ rest) ≡ weights
weights_back [] rest small = refl
weights_back (w ∷ weights) rest small =
    let front = weight_bytes w in
    let behind = weights_bytes weights ++ rest in
    let split : (front ++ weights_bytes weights) ++ rest ≡ front ++ behind = append_assoc front (weights_bytes weights) rest in
    let first : weight_of ((front ++ weights_bytes weights) ++ rest) ≡ w = ap weight_of split ∙ weight_back w behind (small 0 w (omega arith)) in
    let more : weights_of (length weights) (drop 8 ((front ++ weights_bytes weights) ++ rest)) ≡ weights =
    ap (λ xs. weights_of (length weights) (drop 8 xs)) split
    ∙ (ap (weights_of (length weights)) (drop-append_seam front behind)
    ∙ weights_back weights rest (λ k d b. small (suc k) d (omega arith))) in
    λ i. first i ∷ more i

-- a period is at most the hyperperiod
small_weight : (w : ℕ × ℕ) (l : ℕ) → IsWeight w → IsMultiple w.1 l → 0 < l → l ≤ 2 ^ 20 → Small w
small_weight w l weight common positive within =
    let period : w.1 ≤ l = elim (cases_lt l w.1) [
      | inl less ↦ absurd (let whole : l % w.1 ≡ l = mod-eq_of_lt less in omega arith)
      | inr more ↦ more
    ] in
    (omega arith, omega arith)

pub small_weights : (m : ℕ) (tasks : List (ℕ × ℕ)) (s : FilledSet) → Accepts m tasks s → All Small tasks
small_weights m tasks s a = λ k d b. small_weight _ s.hyper (a.weights k d b) (a.hyper.common k d b) a.hyper.positive a.within

-- what is read was written

abbrev AreBytes : List ℕ → Type 0
AreBytes xs = All (λ b. b < 256) xs

-- the bytes of the number in the first n, and what is behind them
pub number_split : (n : ℕ) (xs : List ℕ) → n ≤ length xs → All (λ b. b < 256) xs → xs ≡ little_bytes n (little_number n xs) ++ drop n xs
number_split n xs long small = sym (take-append-drop n xs) ∙ ap (λ t. t ++ drop n xs) (sym (again n xs long small))

weight_split : (xs : List ℕ) → 8 ≤ length xs → AreBytes xs → xs ≡ weight_bytes (weight_of xs) ++ drop 8 xs
weight_split xs long small =
    let more = drop 4 xs in
    let left : length more + 4 ≡ length xs = (let n = length-drop 4 xs in omega arith) in
    let first = number_split 4 xs (omega arith) small in
    let second = number_split 4 more (omega arith) (All-drop (λ b. b < 256) 4 xs small) in
    let a = little_bytes 4 (little_number 4 xs) in
    let b = little_bytes 4 (little_number 4 more) in
    first ∙ (ap (λ t. a ++ t) (second ∙ ap (λ t. b ++ t) (drop-drop 4 4 xs)) ∙ sym (append_assoc a b (drop 8 xs)))

pub weights_split : (n : ℕ) (xs : List ℕ) → 8 * n ≤ length xs → All (λ b. b < 256) xs → xs ≡ weights_bytes (weights_of n xs) ++ drop (8 * n) xs
weights_split zero xs long small = refl
weights_split (suc n) xs long small =
    let more = drop 8 xs in
    let left : length more + 8 ≡ length xs = (let k = length-drop 8 xs in omega arith) in
    let first = weight_split xs (omega arith) small in
    let rest = weights_split n more (omega arith) (All-drop (λ b. b < 256) 8 xs small) in
    let end : 8 + 8 * n ≡ 8 * suc n = omega arith in
    let t = weight_bytes (weight_of xs) in
    let ts = weights_bytes (weights_of n more) in
    first ∙ (ap (λ r. t ++ r) (rest ∙ ap (λ r. ts ++ r) (drop-drop (8 * n) 8 xs ∙ ap (λ k. drop k xs) end)) ∙ sym (append_assoc t ts (drop (8 * suc n) xs)))

-- one weight more

pub weights_push : (weights : List (ℕ × ℕ)) (w : ℕ × ℕ) → weights_bytes (weights ++ w ∷ []) ≡ weights_bytes weights ++ weight_bytes w
weights_push [] w = append-nil (weight_bytes w)
weights_push (v ∷ weights) w = ap (λ t. weight_bytes v ++ t) (weights_push weights w) ∙ sym (append_assoc (weight_bytes v) (weights_bytes weights) (weight_bytes w))

pub weights_more : (n : ℕ) (xs : List ℕ) → weights_of (n + 1) xs ≡ weights_of n xs ++ weight_of (drop (8 * n) xs) ∷ []
weights_more zero xs = let none : 8 * 0 ≡ 0 = omega arith in let one : 0 + 1 ≡ suc 0 = omega arith in ap (λ k. weights_of k xs) one ∙ ap (λ k. weight_of (drop k xs) ∷ []) (sym none)
weights_more (suc n) xs =
    let next : suc n + 1 ≡ suc (n + 1) = omega arith in
    let end : 8 + 8 * n ≡ 8 * suc n = omega arith in
    ap (λ k. weights_of k xs) next
    ∙ ap (λ t. weight_of xs ∷ t) (weights_more n (drop 8 xs)
    ∙ ap (λ t. weights_of n (drop 8 xs) ++ weight_of t ∷ []) (drop-drop (8 * n) 8 xs ∙ ap (λ k. drop k xs) end))
