-- The text of a ledger is read as that ledger.
use Rattle.std.proofs.Common.{◌≡◌, ◌<◌, ◌≤◌, ◌^◌, ℕ, suc, ◌+◌, true, false, List, [], ◌∷◌, ◌++◌, length, get_or, drop, take, codes, Some, refl, sym, ap, ap₂, ◌∙◌, subst, append_assoc, append-nil, arith, lt-ltb}
use Rattle.std.specs.Prelude.{◌==◌, ⊤}
use Rattle.std.specs.Char.{is_ascii_digit}
use Rattle.std.specs.Fmt.{decimal}
use Rattle.std.specs.Int.{IsInRange}
use Rattle.std.specs.List.{All, list_all, slice_split, before_first, after_first, position_or_len}
use Rattle.std.specs.Str.Parse.{AllDigits, IsNumeral, digits_value}
use Rattle.std.proofs.lemmas.Bool.{ne_eqb, le-leb, eq-eqb}
use Rattle.std.proofs.lemmas.Fmt.{decimal_is_IsNumeral, length-decimal-le}
use Rattle.std.proofs.lemmas.List.{get_or_default, get_or_append_left, take_at, drop_at, length_push, length-append}
use Rattle.std.proofs.lemmas.List.Splits.{slice_split_at, slice_split_none}
use Rattle.std.proofs.lemmas.List.Sums.{position_or_len_is}
use Rattle.std.proofs.lemmas.Str.Parse.{digit_at, tells_digits, tells_all_ascii_digits}
use Rattle.std.proofs.Math.Seq.{get_or-append_seam}
use Rattle.pfx_columns.specs.Ledgers.{Ledger, IsLedger}
use Rattle.pfx_columns.proofs.Steps.{fair_below}
use Rattle.pfx_kinds_decimal.specs.Numerals.{number_in}
use Rattle.pfx_program.specs.Leaving.{numbers_after, ledger_text}
use Rattle.pfx_program.specs.Ledger.{slot_in, with_front, numbers_in, allocs_in, joined, ledger_of, Begins}
use Rattle.pfx_program.proofs.LeavingLemmas.{numbers-cons, numbers-nil}

-- ---- a number

no_comma : (b : ℕ) → IsInRange 48 57 b → (b == 44) ≡ false
no_comma b h = ne_eqb _ _ (λ e. omega (arith, h, e))

no_colon : (b : ℕ) → IsInRange 48 57 b → (b == 58) ≡ false
no_colon b h = ne_eqb _ _ (λ e. omega (arith, h, e))

-- digits are no sign
digits_apart : (sign : ℕ) (ds : List ℕ) → ((b : ℕ) → IsInRange 48 57 b → (b == sign) ≡ false) → AllDigits 10 ds → All (λ b. (b == sign) ≡ false) ds
digits_apart sign ds apart h k d below = subst (λ (b : ℕ). (b == sign) ≡ false) (sym (get_or_default ds k d 0 below)) (apart (get_or ds k 0) (digit_at ds k h below))

digits_pass : (ds : List ℕ) → AllDigits 10 ds → list_all is_ascii_digit ds ≡ true
digits_pass [] h = refl
digits_pass (d ∷ ds) h = let parts = tells_digits.parts d ds h in tells_all_ascii_digits.more d ds parts.0 (digits_pass ds parts.1)

written : (n : ℕ) → n < 2 ^ 40 → IsNumeral 10 (decimal n) × (digits_value 10 (decimal n) ≡ n)
written n low = decimal_is_IsNumeral n (omega (arith, low))

number_back : (n : ℕ) → n < 2 ^ 40 → number_in 13 (decimal n) ≡ Some n
unfolding number_in
number_back n low =
    let is = written n low in
    let short : length (decimal n) ≤ 13 = length-decimal-le 13 n (omega arith) (omega (arith, low)) (omega (arith, low)) in
    rw (lt-ltb 0 (length (decimal n)) is.0.0, le-leb (length (decimal n)) 13 short, digits_pass (decimal n) is.0.1) (ap Some is.1)

slot_back : (n : ℕ) → n < 2 ^ 40 → slot_in (decimal n) ≡ Some n
slot_back n low = rw (number_back n low, lt-ltb n (2 ^ 40) low) refl

-- ---- numbers with commas between them

-- each number is below 2^40
abbrev Low : List ℕ → Type 0
Low [] = ⊤
Low (n ∷ ns) = (n < 2 ^ 40) × Low ns

read-cons : (part : List ℕ) (parts : List (List ℕ)) → numbers_in (part ∷ parts) ≡ with_front (number_in 13 part) (numbers_in parts)
unfolding numbers_in
read-cons part parts = refl

read-nil : numbers_in [] ≡ Some []
unfolding numbers_in
read-nil = refl

abbrev parted : List ℕ → List (List ℕ)
parted text = slice_split (λ b. b == 44) text

one_more : (n : ℕ) (rest : List (List ℕ)) (ns : List ℕ) → n < 2 ^ 40 → numbers_in rest ≡ Some ns → numbers_in (decimal n ∷ rest) ≡ Some (n ∷ ns)
one_more n rest ns low is = read-cons (decimal n) rest ∙ ap₂ with_front (number_back n low) is

numbers_back : (n : ℕ) (ns : List ℕ) → n < 2 ^ 40 → Low ns → allocs_in (decimal n ++ numbers_after (codes ",") ns) ≡ Some (n ∷ ns)
numbers_back n [] low all =
    let alone : decimal n ++ numbers_after (codes ",") [] ≡ decimal n = ap (λ t. decimal n ++ t) (numbers-nil (codes ",")) ∙ append-nil (decimal n) in
    let parts : parted (decimal n) ≡ decimal n ∷ [] = slice_split_none (λ b. b == 44) (decimal n) (digits_apart 44 (decimal n) no_comma (written n low).0.1) in
    ap (λ t. numbers_in (parted t)) alone ∙ ap numbers_in parts ∙ one_more n [] [] low read-nil
numbers_back n (m ∷ ms) low all =
    let rest = decimal m ++ numbers_after (codes ",") ms in
    let parts : parted (decimal n ++ 44 ∷ rest) ≡ decimal n ∷ parted rest =
    slice_split_at (λ b. b == 44) (decimal n) 44 rest (digits_apart 44 (decimal n) no_comma (written n low).0.1) refl in
    ap (λ t. numbers_in (parted (decimal n ++ t))) (numbers-cons (codes ",") m ms) ∙ ap numbers_in parts ∙ one_more n (parted rest) (m ∷ ms) low (numbers_back m ms all.0 all.1)

-- ---- the whole text

parts_of : (text : List ℕ) → ledger_of text ≡ joined (slot_in (before_first (λ b. b == 58) text)) (allocs_in (after_first (λ b. b == 58) text))
unfolding ledger_of
parts_of text = refl

-- the first colon stands behind the slot
colon_at : (n : ℕ) (rest : List ℕ) → n < 2 ^ 40 → position_or_len (λ b. b == 58) (decimal n ++ 58 ∷ rest) ≡ length (decimal n)
colon_at n rest low =
    let text = decimal n ++ 58 ∷ rest in
    let long : length text ≡ length (decimal n) + length (58 ∷ rest) = length-append (decimal n) (58 ∷ rest) in
    let apart = digits_apart 58 (decimal n) no_colon (written n low).0.1 in
    position_or_len_is (λ b. b == 58) text (length (decimal n)) 0 (omega (arith, long))
    (λ k below. subst (λ (b : ℕ). (b == 58) ≡ false) (sym (get_or_append_left (decimal n) (58 ∷ rest) 0 k below)) (apart k 0 below))
    (λ below. subst (λ (b : ℕ). (b == 58) ≡ true) (sym (get_or-append_seam (decimal n) 58 rest 0)) refl)

front_is : (n : ℕ) (rest : List ℕ) → n < 2 ^ 40 → before_first (λ b. b == 58) (decimal n ++ 58 ∷ rest) ≡ decimal n
front_is n rest low = ap (λ k. take k (decimal n ++ 58 ∷ rest)) (colon_at n rest low) ∙ take_at (decimal n) (58 ∷ rest) (length (decimal n)) refl

rest_is : (n : ℕ) (rest : List ℕ) → n < 2 ^ 40 → after_first (λ b. b == 58) (decimal n ++ 58 ∷ rest) ≡ rest
rest_is n rest low =
    let place : length (decimal n ++ 58 ∷ []) ≡ length (decimal n) + 1 = length_push (decimal n) 58 in
    ap (λ k. drop (k + 1) (decimal n ++ 58 ∷ rest)) (colon_at n rest low) ∙ ap (λ t. drop (length (decimal n) + 1) t) (sym (append_assoc (decimal n) (58 ∷ []) rest))
    ∙ drop_at (decimal n ++ 58 ∷ []) rest (length (decimal n) + 1) place

text_back : (slot : ℕ) (allocs : List ℕ) → slot < 2 ^ 40 → Low allocs → 0 < length allocs → ledger_of (decimal slot ++ numbers_after (codes ":") allocs) ≡ Some (slot, allocs)
text_back slot [] low all some = absurd (omega (arith, some))
text_back slot (n ∷ ns) low all some =
    let rest = decimal n ++ numbers_after (codes ",") ns in
    ap (λ t. ledger_of (decimal slot ++ t)) (numbers-cons (codes ":") n ns) ∙ parts_of (decimal slot ++ 58 ∷ rest)
    ∙ ap₂ joined (ap slot_in (front_is slot rest low) ∙ slot_back slot low) (ap allocs_in (rest_is slot rest low) ∙ numbers_back n ns all.0 all.1)

-- ---- a ledger

low_from : (ns : List ℕ) → ((x : ℕ) → x < length ns → get_or ns x 0 < 2 ^ 40) → Low ns
low_from [] h = tt
low_from (n ∷ ns) h = (h 0 (omega arith), low_from ns (λ x l. h (suc x) (omega (arith, l))))

-- no task got more slots than there were
allocs_low : (g : Ledger) → IsLedger g → Low g.allocs
allocs_low g h = low_from g.allocs (λ x l.
    let same = h.length in
    let within : x < length g.set.weights = omega (arith, same, l) in
    let below = fair_below _ _ _ g.slot (h.set.weights x (0, 0) within).1 (h.fair x within) in
    let last = h.slot in
    omega (arith, below, last))

pub begins_back : (g : Ledger) → IsLedger g → Begins g.set (Some (ledger_text g)) g
begins_back g h =
    let real = h.set.real.0 in
    let front = h.set.front in
    let same = h.length in
    let some : 0 < length g.allocs = omega (arith, real, front, same) in
    let read = text_back g.slot g.allocs h.slot (allocs_low g h) some in
    (rw (read, eq-eqb (length g.allocs) (length g.set.weights) h.length) refl, h)
