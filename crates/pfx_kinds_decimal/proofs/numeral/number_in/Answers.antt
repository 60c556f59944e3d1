use Rattle.std.proofs.Common.{◌≡◌, ◌+◌, ◌-◌, ◌*◌, ◌^◌, ◌<◌, ◌≤◌, ◌∙◌, refl, ℕ, true, take, sym, ap, arith, add-one, lit<}
use Rattle.std.specs.Prelude.{slice_index, ◌&&◌, Bool}
use Rattle.std.specs.Char.{is_ascii_digit, digit_value}
use Rattle.std.specs.Str.Parse.{digits_value}
use Rattle.std.proofs.Math.Nat.{pow-suc, pow-le-pow_right}
use Rattle.std.proofs.lemmas.Bool.Decides.{nat_tests}
use Rattle.std.proofs.lemmas.Int.Digits.{digits_value_more}
use Rattle.std.proofs.lemmas.List.Folds.{list_all_more}
use Rattle.pfx_kinds_decimal.proofs.numeral.number_in.Goals as goal

digit_low : (c : ℕ) → is_ascii_digit c ≡ true → 48 ≤ c
digit_low c h = grind (arith, nat_tests)

digit_high : (c : ℕ) → is_ascii_digit c ≡ true → c ≤ 57
digit_high c h = grind (arith, nat_tests)

digit_value-digit : (c : ℕ) → is_ascii_digit c ≡ true → digit_value c ≡ c - 48
digit_value-digit c h =
    let low = digit_low c h in
    let high = digit_high c h in
    grind (arith, nat_tests)

room : (i value d : ℕ) → value < 10 ^ i → d ≤ 9 → value * 10 + d < 10 ^ (i + 1)
room i value d h k = rw (add-one, pow-suc 10 i) (omega arith)

true-both : (a b : Bool) → a ≡ true → b ≡ true → (a && b) ≡ true
true-both a b h k = rw (h, k) refl

fits : (i value d most : ℕ) → value < 10 ^ i → d ≤ 9 → i < most → most ≤ 19 → value * 10 + d < 2 ^ 64
fits i value d most h k below within =
    let top : 10 ^ (i + 1) ≤ 10 ^ 19 = pow-le-pow_right {n = 10} (lit< tt) {i = i + 1} {j = 19} (omega arith) in
    omega (arith, room i value d h k)

value_fits : (i value most : ℕ) → value < 10 ^ i → i < most → most ≤ 19 → value * 10 < 2 ^ 64
value_fits i value most h below within = omega (arith, fits i value 0 most h (omega arith) below within)

pub overflow_mul-value : goal.overflow_mul-value
overflow_mul-value c = omega (arith, value_fits c.digits.byte-index c.digits.value c.args.most c.digits.invariant.below (omega arith) (omega arith))

pub overflow_add-value : goal.overflow_add-value
overflow_add-value c =
    let byte = slice_index c.args.text.now c.digits.byte-index in
    let is : is_ascii_digit byte ≡ true = sym c.is_ascii_digit.ensures.value ∙ c.if-not-is_ascii_digit.false in
    let here : c.from.result ≡ byte - 48 = c.from.ensures in
    omega (arith, fits c.digits.byte-index c.digits.value c.from.result c.args.most c.digits.invariant.below (omega (arith, digit_high byte is)) (omega arith) (omega arith))

pub digits-preserved : goal.digits-preserved
digits-preserved c =
    let i = c.digits.byte-index in
    let text = c.args.text.now in
    let byte = slice_index text i in
    let is : is_ascii_digit byte ≡ true = sym c.is_ascii_digit.ensures.value ∙ c.if-not-is_ascii_digit.false in
    let value = digits_value_more 10 text i (omega arith) in
    let all = list_all_more is_ascii_digit text i 0 (omega arith) in
    let here : c.from.result ≡ byte - 48 = c.from.ensures in
    record {
      value = rw here (ap (λ x. x * 10 + (byte - 48)) c.digits.invariant.value ∙ (ap (λ d. digits_value 10 (take i text) * 10 + d) (sym (digit_value-digit byte is)) ∙ sym value));
      digits = all ∙ true-both _ _ c.digits.invariant.digits is;
      below = rw here (room i c.digits.value (byte - 48) c.digits.invariant.below (omega (arith, digit_high byte is)));
    }

pub returns-clause-within : goal.returns-clause-within
returns-clause-within c =
    let top : 10 ^ c.digits.byte-index ≤ 10 ^ c.args.most = pow-le-pow_right {n = 10} (lit< tt) {i = c.digits.byte-index} {j = c.args.most} (omega arith) in
    omega (arith, c.digits.invariant.below)
