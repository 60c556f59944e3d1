-- The number that the typed getter reads, and numbers as users write them.
use Rattle.std.proofs.Common.{◌≡◌, ℕ, Bool, true, false, List, [], ◌∷◌, length, Option, Some, None, Result, Ok, Err, refl, ap, ◌∙◌, nat_lt, lt-ltb, ltb-true, pos, arith, ◌<◌, ◌≤◌, ◌^◌}
use Rattle.std.specs.Prelude.{option_and_then, ◌==◌}
use Rattle.std.specs.Char.{digit_value}
use Rattle.std.specs.List.{list_all}
use Rattle.std.specs.Str.Parse.{AllDigits, IsNumeral, ParsesUnsigned, digits_value, without_leading_plus}
use Rattle.std.proofs.lemmas.Bool.{ne_eqb, le-leb}
use Rattle.std.proofs.lemmas.Str.Parse.{digit_from_value}
use Rattle.clap.specs.ValueTests.{is_signed_in}
use Rattle.clap.specs.Matches.{ReadsOne, one_text}
use Rattle.clap.specs.Walk.{one_of, rows_of}
use Rattle.clap.specs.declared.parser.matches.Found.{Found}
use Rattle.clap.proofs.WalkLemmas.{both, one_text-rows}
use Rattle.pfx_program_args.specs.Requests.{is_number, number_within, number_of}

digits_pass : (ds : List ℕ) → AllDigits 10 ds → list_all (λ d. nat_lt (digit_value d) 10) ds ≡ true
digits_pass [] h = refl
digits_pass (d ∷ ds) h = rw (lt-ltb (digit_value d) 10 h.0) (digits_pass ds h.1)

digits_from : (ds : List ℕ) → list_all (λ d. nat_lt (digit_value d) 10) ds ≡ true → AllDigits 10 ds
digits_from [] e = tt
digits_from (d ∷ ds) e =
    let parts = both _ _ e in
    (ltb-true _ _ parts.0, digits_from ds parts.1)

-- what is read of a text is the number that it writes
number_read : (bits : ℕ) (E : Type 0) (G : List ℕ → Result ℕ E → Type 0) (text : List ℕ) (o : Option ℕ) → ReadsOne G text o
    → ((u : List ℕ) (r : Result ℕ E) → G u r → ParsesUnsigned bits 10 u r) → o ≡ number_within bits text
number_read bits E G text (Some n) h only =
    let ds = without_leading_plus text in
    let parsed = only text (Ok n) h in
    rw (lt-ltb 0 (length ds) parsed.0.0.0, digits_pass ds parsed.0.0.1, lt-ltb (digits_value 10 ds) (2 ^ bits) parsed.0.1) (ap Some parsed.1)
number_read bits E G text None h only = go (is_number bits (without_leading_plus text)) refl
  where
    go : (b : Bool) → is_number bits (without_leading_plus text) ≡ b → None ≡ number_within bits text
    go false t = rw t refl
    go true t =
        let outer = both _ _ t in
        let inner = both _ _ outer.0 in
        absurd (only text (Err h.0) h.1 ((ltb-true _ _ inner.0, digits_from (without_leading_plus text) inner.1), ltb-true _ _ outer.1))

-- and so of what was found for an argument
pub number_found : (bits : ℕ) (E : Type 0) (G : List ℕ → Result ℕ E → Type 0) (f : Found) (id : List ℕ) (o : Option ℕ)
    → (one_text f id ≡ None → o ≡ None) → ((t : List ℕ) → one_text f id ≡ Some t → ReadsOne G t o)
    → ((u : List ℕ) (r : Result ℕ E) → G u r → ParsesUnsigned bits 10 u r) → o ≡ option_and_then (λ text. number_within bits text) (one_of id (rows_of f))
number_found bits E G f id o none value only = go (one_text f id) refl ∙ ap (option_and_then (λ text. number_within bits text)) (one_text-rows f id)
  where
    go : (found : Option (List ℕ)) → one_text f id ≡ found → o ≡ option_and_then (λ text. number_within bits text) (one_text f id)
    go None e = rw e (none e)
    go (Some t) e = rw e (number_read bits E G t o (value t e) only)

-- ---- numbers in plain digits, up to a greatest one

pub no_sign : (d : ℕ) (ds : List ℕ) → IsNumeral 10 (d ∷ ds) → ((d == 45) ≡ false) × ((d == 43) ≡ false)
no_sign d ds h = (ne_eqb _ _ (λ e. omega (arith, digit_from_value d h.1.0)), ne_eqb _ _ (λ e. omega (arith, digit_from_value d h.1.0)))

pub number_written : (most d : ℕ) (ds : List ℕ) → IsNumeral 10 (d ∷ ds) → digits_value 10 (d ∷ ds) ≤ most → most < 4294967296 → number_of (d ∷ ds) ≡ Some (digits_value 10 (d ∷ ds))
number_written most d ds h up small =
    let n = digits_value 10 (d ∷ ds) in
    let fits : n < 4294967296 = omega arith in
    rw ((no_sign d ds h).1, digits_pass (d ∷ ds) h.1, lt-ltb 0 (length (d ∷ ds)) h.0, lt-ltb n 4294967296 fits) refl

pub number_passes : (least most d : ℕ) (ds : List ℕ) → IsNumeral 10 (d ∷ ds) → least ≤ digits_value 10 (d ∷ ds) → digits_value 10 (d ∷ ds) ≤ most → most < 4294967296 → is_signed_in (pos least) (pos most) (d ∷ ds) ≡ true
number_passes least most d ds h low up small =
    let n = digits_value 10 (d ∷ ds) in
    let fits : n < 9223372036854775808 = omega arith in
    rw ((no_sign d ds h).0, (no_sign d ds h).1, digits_pass (d ∷ ds) h.1, lt-ltb 0 (length (d ∷ ds)) h.0, lt-ltb n 9223372036854775808 fits, le-leb least n low, le-leb n most up) refl
