-- From the mask of sixteen bytes to the first place of a byte.
use Rattle.std.proofs.Common.{◌≡◌, ◌≢◌, ℕ, zero, suc, ◌+◌, ◌-◌, ◌*◌, ◌/◌, ◌%◌, ◌^◌, ◌<◌, ◌≤◌, ◌==◌, eqb, Bool, true, false, cond, List, map, length, get_or, refl, sym, ap, ◌∙◌, subst, arith, inl, inr}
use Rattle.std.proofs.Math.Nat.{div-div-eq-div-mul, div-lt_iff_lt-mul}
use Rattle.std.proofs.lemmas.Bool.{cases_eq, cases_lt, eq-eqb, ne_eqb, cond-true, cond-false}
use Rattle.std.proofs.lemmas.Grind.{common_steps}
use Rattle.std.proofs.lemmas.Nat.{pow-add, pow_pos}
use Rattle.std.proofs.lemmas.Nat.Bits.{bit_at-zero, bit_at_above, bit_at-trailing_zeros}
use Rattle.std.proofs.lemmas.Simd.{map-map, mask_l-mod, mask_l-lt, bit_mask_l, length-chunk, get_or-chunk}
use Rattle.std.proofs.lemmas.List.{length-map, get_or-map, append-nil}
use Rattle.std.specs.Int.{w64, bit_at, trailing_zeros}
use lib.Lanes.{chunk, mask_l, top}
use Rattle.pfx_weights.specs.Search.{first_set, IsNowhere, IsMaskOf, IsFirstOf, IsFirstFrom}
use Rattle.pfx_weights.specs.Rows.{members}
use Rattle.pfx_weights.proofs.RowSets.{members_more, other_number}

top_if : (b : Bool) → top 7 (cond b 255 0) ≡ b
top_if true = refl
top_if false = refl

-- a bit by a test
abbrev bit : Bool → ℕ
bit b = cond b 1 0

eq_of : (x y : ℕ) → bit (x == y) ≡ 1 → x ≡ y
eq_of x y h = grind (arith, common_steps)

ne_of : (x y : ℕ) → bit (x == y) ≡ 0 → x ≢ y
ne_of x y h = grind (arith, common_steps)

-- the bits of a comparison of sixteen bytes with one
pub mask_is : (byte : ℕ) (d : List ℕ) (i : ℕ) (z : List ℕ) → i + 16 ≤ length d → z ≡ map (λ x. cond (eqb x byte) 255 0) (chunk i 16 d) → IsMaskOf d byte i (mask_l (map (top 7) z) % 2 ^ 64)
mask_is byte d i z room lanes =
    let v = chunk i 16 d in
    let stops : ℕ → Bool = λ x. top 7 (cond (eqb x byte) 255 0) in
    let long : length v ≡ 16 = length-chunk i 16 d room in
    let all : length (map stops v) ≡ 16 = length-map v stops ∙ long in
    let mask : mask_l (map (top 7) z) % 2 ^ 64 ≡ mask_l (map stops v) =
    ap (λ l. mask_l l % 2 ^ 64) (ap (map (top 7)) lanes ∙ map-map (top 7) (λ x. cond (eqb x byte) 255 0) v) ∙ mask_l-mod (map stops v) 64 (omega (arith, all)) in
    let few : mask_l (map stops v) < 2 ^ 16 = (let P : ℕ → Type 0 = λ n. mask_l (map stops v) < 2 ^ n in subst P all (mask_l-lt (map stops v))) in
    record {
      few = subst (λ m. m < 2 ^ 16) (sym mask) few;
      bits = λ k below.
          (ap (λ m. bit_at m k) mask ∙ bit_mask_l (map stops v) k
          ∙ ap bit (get_or-map stops v k 0 false (omega (arith, below, long)) ∙ top_if (eqb (get_or v k 0) byte)
          ∙ ap (λ x. eqb x byte) (get_or-chunk i 16 d k 0 below)));
    }

-- of the n places from i on, the bits of m are set where the byte stands
pub record HasBits (d : List ℕ) (byte i n m : ℕ) : Type 0 where
  pub few : m < 2 ^ n
  pub bits : (k : ℕ) → k < n → bit_at m k ≡ bit (get_or d (i + k) 0 == byte)

pub all_bits : (d : List ℕ) (byte i m : ℕ) → IsMaskOf d byte i m → HasBits d byte i 16 m
all_bits d byte i m h = record { few = h.few; bits = h.bits }

-- behind the first s bits are those of the places behind the first s
pub bits_behind : (d : List ℕ) (byte i at m : ℕ) → i ≤ at → at ≤ i + 16 → HasBits d byte i 16 m → HasBits d byte at (16 - (at - i)) (m / 2 ^ (at - i))
bits_behind d byte i at m low high h =
    let s = at - i in
    let back : i + s ≡ at = omega (arith, low) in
    let whole : s + (16 - s) ≡ 16 = omega (arith, high) in
    let rest : 16 ≡ 16 - s + s = omega (arith, whole) in
    let product : 2 ^ 16 ≡ 2 ^ (16 - s) * 2 ^ s = ap (λ n. 2 ^ n) rest ∙ pow-add 2 (16 - s) s in
    let some : 0 < 2 ^ s = pow_pos s in
    record {
      few = (div-lt_iff_lt-mul some).1 (subst (λ n. m < n) product h.few);
      bits = λ k below.
          (let behind : i + (s + k) ≡ at + k = omega (arith, back) in
          ap (λ n. n % 2) (div-div-eq-div-mul m (2 ^ s) (2 ^ k) ∙ ap (λ n. m / n) (sym (pow-add 2 s k)))
          ∙ h.bits (s + k) (omega (arith, below, whole))
          ∙ ap (λ j. bit (get_or d j 0 == byte)) behind);
    }

-- where no bit is set, the byte stands nowhere
none_set : (d : List ℕ) (byte i n m : ℕ) → m ≡ 0 → HasBits d byte i n m → IsNowhere d byte i (i + n)
none_set d byte i n m none h = λ k from to.
    (let back : i + (k - i) ≡ k = omega (arith, from) in
    let unset : bit_at m (k - i) ≡ 0 = ap (λ x. bit_at x (k - i)) none ∙ bit_at-zero (k - i) in
    let at = ap (λ j. bit (get_or d j 0 == byte)) back in
    ne_of (get_or d k 0) byte (sym at ∙ sym (h.bits (k - i) (omega (arith, from, to))) ∙ unset))

-- the lowest bit that is set is that of the byte's first place
record IsLowest (d : List ℕ) (byte i n r : ℕ) : Type 0 where
  pub within : r < n
  pub none : IsNowhere d byte i (i + r)
  pub found : get_or d (i + r) 0 ≡ byte

lowest_set : (d : List ℕ) (byte i n m : ℕ) → n ≤ 16 → m ≢ 0 → HasBits d byte i n m → m < 2 ^ 64 → IsLowest d byte i n (trailing_zeros w64 m)
lowest_set d byte i n m few some h fits =
    let t = bit_at-trailing_zeros w64 m (omega (arith, some)) fits in
    let r = trailing_zeros w64 m in
    let within : r < n = elim (cases_lt r n) [
      | inl below ↦ below
      | inr above ↦ (let unset = bit_at_above m n r h.few above in let one = t.1 in omega (arith, unset, one))
    ] in
    record {
      within = within;
      none = λ k from to.
          (let back : i + (k - i) ≡ k = omega (arith, from) in
          let at = ap (λ j. bit (get_or d j 0 == byte)) back in
          ne_of (get_or d k 0) byte (sym at ∙ sym (h.bits (k - i) (omega (arith, from, to, within))) ∙ t.2 (k - i) (omega (arith, from, to))));
      found = eq_of (get_or d (i + r) 0) byte (sym (h.bits r within) ∙ t.1);
    }

-- the first of sixteen
pub first_in : (d : List ℕ) (byte i m r : ℕ) → m < 2 ^ 64 → r ≡ first_set m → HasBits d byte i 16 m → IsFirstOf d byte i 16 r
first_in d byte i m r fits is h = elim (cases_eq m 0) [
  | inl none ↦
      (let sixteen : r ≡ 16 = is ∙ cond-true _ _ _ (eq-eqb _ _ none) in
      record {
        within = omega (arith, sixteen);
        none = subst (λ n. IsNowhere d byte i (i + n)) (sym sixteen) (none_set d byte i 16 m none h);
        found = λ short. elim (let no : ⊥ = omega (arith, short, sixteen) in no) [ ];
      })
  | inr some ↦
      (let low = lowest_set d byte i 16 m (omega arith) some h fits in
      let same : r ≡ trailing_zeros w64 m = is ∙ cond-false _ _ _ (ne_eqb _ _ some) in
      record {
        within = omega (arith, same, low.within);
        none = subst (λ n. IsNowhere d byte i (i + n)) (sym same) low.none;
        found = λ _. ap (λ n. get_or d (i + n) 0) same ∙ low.found;
      })
]

-- the first of the last places
pub first_at : (d : List ℕ) (byte at n m : ℕ) → n ≤ 16 → m < 2 ^ 64 → first_set m < 16 → at + n ≡ length d → HasBits d byte at n m → IsFirstFrom d byte at (at + first_set m)
first_at d byte at n m few fits below end h = elim (cases_eq m 0) [
  | inl none ↦
      (let sixteen : first_set m ≡ 16 = cond-true _ _ _ (eq-eqb _ _ none) in
      elim (let no : ⊥ = omega (arith, below, sixteen) in no) [ ])
  | inr some ↦
      (let low = lowest_set d byte at n m few some h fits in
      let same : first_set m ≡ trailing_zeros w64 m = cond-false _ _ _ (ne_eqb _ _ some) in
      record {
        low = omega arith;
        high = omega (arith, same, low.within, end);
        none = subst (λ k. IsNowhere d byte at (at + k)) (sym same) low.none;
        found = λ _. ap (λ k. get_or d (at + k) 0) same ∙ low.found;
      })
]

-- none of the last places
pub none_at : (d : List ℕ) (byte at n m : ℕ) → n ≤ 16 → m < 2 ^ 64 → 16 ≤ first_set m → at + n ≡ length d → HasBits d byte at n m → IsFirstFrom d byte at (length d)
none_at d byte at n m few fits none_found end h = elim (cases_eq m 0) [
  | inl none ↦
      record {
        low = omega (arith, end);
        high = omega arith;
        none = subst (λ k. IsNowhere d byte at k) end (none_set d byte at n m none h);
        found = λ short. elim (let no : ⊥ = omega (arith, short) in no) [ ];
      }
  | inr some ↦
      (let low = lowest_set d byte at n m few some h fits in
      let same : first_set m ≡ trailing_zeros w64 m = cond-false _ _ _ (ne_eqb _ _ some) in
      elim (let no : ⊥ = omega (arith, none_found, same, low.within, few) in no) [ ])
]

-- no place but those before and those behind
pub nowhere_on : (bytes : List ℕ) (byte from at to : ℕ) → IsNowhere bytes byte from at → IsNowhere bytes byte at to → IsNowhere bytes byte from to
nowhere_on bytes byte from at to h g = λ k low high. elim (cases_lt k at) [ inl before ↦ h k low before | inr behind ↦ g k behind high ]

-- a place without the byte more
pub nowhere_more : (bytes : List ℕ) (byte from at : ℕ) → IsNowhere bytes byte from at → get_or bytes at 0 ≢ byte → IsNowhere bytes byte from (at + 1)
nowhere_more bytes byte from at h other = λ k low high. elim (cases_lt k at) [
  | inl before ↦ h k low before
  | inr behind ↦ (let same : at ≡ k = omega arith in subst (λ j. get_or bytes j 0 ≢ byte) same other)
]

-- places that aren't members add none
members_by : (n k : ℕ) (s : ℕ → Bool) → ((x : ℕ) → n ≤ x → x < n + k → s x ≡ false) → members n s ≡ members (n + k) s
members_by n zero s none = let same : n ≡ n + zero = omega arith in ap (λ m. members m s) same
members_by n (suc k) s none =
    let same : n + k + 1 ≡ n + suc k = omega arith in
    members_by n k s (λ x low high. none x low (omega arith))
    ∙ sym (append-nil (members (n + k) s)) ∙ members_more (n + k) s false (members (n + k) s) refl (sym (none (n + k) (omega arith) (omega arith)))
    ∙ ap (λ m. members m s) same

-- up to the next place of a byte
pub members_to : (bytes : List ℕ) (byte n m : ℕ) → n ≤ m → IsNowhere bytes byte n m → members n (λ x. get_or bytes x 0 == byte) ≡ members m (λ x. get_or bytes x 0 == byte)
members_to bytes byte n m le none =
    let same : n + (m - n) ≡ m = omega arith in
    members_by n (m - n) (λ x. get_or bytes x 0 == byte) (λ x low high. other_number (get_or bytes x 0) byte (none x low (omega arith))) ∙ ap (λ k. members k (λ x. get_or bytes x 0 == byte)) same
