-- The ranges and the bytes of an Own.
use Rattle.std.specs.Prelude.{◌≡◌, ℕ, ◌-◌, ◌^◌, ◌<◌, ◌≤◌, nat_lt, nat_eq, List, ◌∷◌, ◌++◌, length, replicate, take, drop, IsTrue}
use Rattle.std.specs.Prelude.{refl}
use Rattle.std.specs.List.{list_all}
use Rattle.std.proofs.Common.{arith, suc, ap, zero, ◌∙◌, length-append}
use Rattle.std.proofs.lemmas.Bool.Decides.{nat_tests}
use Rattle.std.proofs.lemmas.List.{length-replicate}
use Rattle.byteorder.specs.Endian.{little_bytes, little_number}
use Rattle.byteorder.specs.Numbers.{little_number-reads_back}
use Rattle.pfx_kinds.specs.Tests.{both-true, true-both, take_front, drop_front}
use Rattle.pfx_kinds.specs.Scans.{are_zeros}
use Rattle.pfx_kinds.specs.Owns.{OwnFields, is_visible, own_fits, own_end, own_bytes, own_found}

-- the test by comparisons
pub record OwnParts (answered since a : ℕ) (text : List ℕ) : Type 0 where
  pub small : answered < 2 ^ 40
  pub early : since < 2 ^ 40
  pub short : a ≤ 106
  pub long : length text ≡ 106

pub own_parts : (answered since a : ℕ) (text : List ℕ) → IsTrue (own_fits answered since a text) → OwnParts answered since a text
own_parts answered since a text h =
    let all_tests = both-true _ _ h in
    let number_tests = both-true _ _ all_tests.0 in
    let count_tests = both-true _ _ number_tests.0 in
    let list_tests = both-true _ _ all_tests.1 in
    let more_tests = both-true _ _ list_tests.0 in
    let h1 : IsTrue (nat_lt answered (2 ^ 40)) = count_tests.0 in
    let h4 : IsTrue (nat_lt since (2 ^ 40)) = count_tests.1 in
    let h2 : IsTrue (nat_lt a 107) = number_tests.1 in
    let h3 : IsTrue (nat_eq (length text) 106) = more_tests.0 in
    record {
      small = grind (arith, nat_tests);
      early = grind (arith, nat_tests);
      short = grind (arith, nat_tests);
      long = grind (arith, nat_tests);
    }

-- the numbers are found again in their bytes
abbrev made : ℕ → ℕ → ℕ → List ℕ → OwnFields
made answered since a text = record { answered = answered; since = since; text_length = a; text = text }

same_fields : (f : OwnFields) (answered since : ℕ) (text : List ℕ) → answered ≡ f.answered → since ≡ f.since → text ≡ f.text → made answered since f.text_length text ≡ f
same_fields f answered since text p r q =
    ap (λ x. made x since f.text_length text) p ∙ (ap (λ x. made f.answered x f.text_length text) r ∙ ap (λ x. made f.answered f.since f.text_length x) q)

pub own_found-own_bytes : (f : OwnFields) → IsTrue (own_fits f.answered f.since f.text_length f.text) → own_found (own_bytes f) ≡ f
unfolding own_bytes
own_found-own_bytes f h =
    let parts = own_parts f.answered f.since f.text_length f.text h in
    let small : f.answered < 256 ^ 8 = omega (arith, parts.small) in
    let early : f.since < 256 ^ 5 = omega (arith, parts.early) in
    let end : List ℕ = little_bytes 5 f.since ++ own_end in
    same_fields f _ _ _
    (little_number-reads_back 8 f.answered (f.text_length ∷ (f.text ++ end)) small)
    (ap (little_number 5) (drop_front f.text end 106 parts.long) ∙ little_number-reads_back 5 f.since own_end early)
    (take_front f.text end 106 parts.long)

pub length-own_bytes : (f : OwnFields) → length f.text ≡ 106 → length (own_bytes f) ≡ 128
unfolding own_bytes
length-own_bytes f t =
    let e1 = length-append f.text (little_bytes 5 f.since ++ own_end) in
    omega (arith, e1)

-- an answer at its start
zeros_clear : (n : ℕ) → IsTrue (are_zeros (replicate n 0))
zeros_clear zero = refl
zeros_clear (suc n) = zeros_clear n

pub own_fits-start : (answered since : ℕ) (text : List ℕ) → answered < 2 ^ 40 → since < 2 ^ 40 → length text ≤ 106 → IsTrue (list_all is_visible text)
    → IsTrue (own_fits answered since (length text) (text ++ replicate (106 - length text) 0))
own_fits-start answered since text small early short visible =
    let a : ℕ = length text in
    let zeros : List ℕ = replicate (106 - a) 0 in
    let e1 = length-append text zeros in
    let e2 : length zeros ≡ 106 - a = length-replicate (106 - a) 0 in
    let e : length (text ++ zeros) ≡ 106 = omega (arith, e1, e2) in
    let h1 : IsTrue (nat_lt answered (2 ^ 40)) = grind (arith, nat_tests, small) in
    let h4 : IsTrue (nat_lt since (2 ^ 40)) = grind (arith, nat_tests, early) in
    let h2 : IsTrue (nat_lt a 107) = grind (arith, nat_tests, short) in
    let long : IsTrue (nat_eq (length (text ++ zeros)) 106) = ap (λ k. nat_eq k 106) e in
    let clear : IsTrue (are_zeros (drop a (text ++ zeros))) = ap are_zeros (drop_front text zeros a refl) ∙ zeros_clear (106 - a) in
    let seen : IsTrue (list_all is_visible (take a (text ++ zeros))) = ap (list_all is_visible) (take_front text zeros a refl) ∙ visible in
    true-both _ _ (true-both _ _ (true-both _ _ h1 h4) h2) (true-both _ _ (true-both _ _ long clear) seen)

-- an answer whose unit is counted from another slot on
is_early : (since : ℕ) → since < 2 ^ 40 → IsTrue (nat_lt since (2 ^ 40))
is_early since early = grind (arith, nat_tests, early)

pub own_fits-since : (answered since a : ℕ) (text : List ℕ) (other : ℕ) → IsTrue (own_fits answered since a text) → other < 2 ^ 40
    → IsTrue (own_fits answered other a text)
own_fits-since answered since a text other h early =
    let all_tests = both-true _ _ h in
    let number_tests = both-true _ _ all_tests.0 in
    let count_tests = both-true _ _ number_tests.0 in
    true-both _ _ (true-both _ _ (true-both _ _ count_tests.0 (is_early other early)) number_tests.1) all_tests.1
