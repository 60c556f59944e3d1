-- Batches in a row: how many records they have, and beginnings of them.
use Rattle.std.proofs.Common.{◌≡◌, ◌+◌, ◌<◌, ◌≤◌, Bool, true, false, ◌&&◌, nat_le, nat_lt, List}
use Rattle.std.proofs.Common.{[], ◌∷◌, ◌++◌, length, map, refl, ap, sym, ◌∙◌, arith, length-append, ◌^◌}
use Rattle.std.proofs.lemmas.Bool.{ltb-true, false≢true}
use Rattle.std.proofs.lemmas.List.{append_assoc, append-nil, length-map}
use Rattle.std.specs.Bool.{IsTrue}
use Rattle.std.specs.Prelude.{MatchBool}
use mathlib.Core.List.{IsPrefix}
use Rattle.pfx_machine.specs.Plain.{Plain}
use Rattle.pfx_record.specs.Batches.{all_fit, counts_fit}
use Rattle.pfx_record.specs.Records.{form_of, plain}
use Rattle.pfx_record.specs.declared.batch.Batch.{Batch}
use Rattle.pfx_record.proofs.Rising.{both}
use Rattle.pfx_front_board.specs.Word.{records_of, last_of}

-- two lists that begin one another are one
pub prefix_both : {A : Type 0} (xs ys : List A) → IsPrefix xs ys → IsPrefix ys xs → xs ≡ ys
prefix_both [] [] p q = refl
prefix_both [] (y ∷ ys) p q = absurd (cc (q.1))
prefix_both (x ∷ xs) [] p q = absurd (cc (p.1))
prefix_both (x ∷ xs) (y ∷ ys) p q =
    let rest = prefix_both xs ys (p.0, cc (p.1)) (q.0, cc (q.1)) in cc (p.1, rest)

-- the test that a list has no more entries, if it holds
pub begins_if : {A : Type 0} (xs ys : List A) (b : Bool) → MatchBool b (IsPrefix xs ys) (IsPrefix ys xs) → IsTrue b → IsPrefix xs ys
begins_if xs ys true m h = m
begins_if xs ys false m h = absurd (false≢true h)

module _ {J : Type 0} where
  pub records_append : (xs ys : List (Batch J)) → records_of (xs ++ ys) ≡ records_of xs ++ records_of ys
  records_append [] ys = refl
  records_append (b ∷ xs) ys =
      let first = map plain b.records.items in
      ap (λ w. first ++ w) (records_append xs ys) ∙ sym (append_assoc first (records_of xs) (records_of ys))

  -- a batch more has its records after those before it
  pub records_more : (xs : List (Batch J)) (b : Batch J) → records_of (xs ++ b ∷ []) ≡ records_of xs ++ map plain b.records.items
  records_more xs b = records_append xs (b ∷ []) ∙ ap (λ w. records_of xs ++ w) (append-nil (map plain b.records.items))

  pub last_more : (o : Plain J) (xs : List (Batch J)) (b : Batch J) → last_of o (xs ++ b ∷ []) ≡ last_of o xs + length b.records.items
  last_more o xs b =
      let all = ap length (records_more xs b) in
      let sum = length-append (records_of xs) (map plain b.records.items) in
      omega (arith, all, sum, length-map b.records.items plain)

  -- more batches, no lower number
  pub last_begins : (o : Plain J) (xs ys : List (Batch J)) → IsPrefix xs ys → last_of o xs ≤ last_of o ys
  last_begins o xs ys p =
      let e : length (records_of ys) ≡ length (records_of xs) + length (records_of p.0) =
      ap (λ w. length (records_of w)) (sym p.1) ∙ (ap length (records_append xs p.0) ∙ length-append (records_of xs) (records_of p.0)) in
      omega (arith, e)

  has_record : (b : Batch J) → 0 < length b.records.items
  has_record b =
      let count = length (map plain b.records.items) in
      let fit = both (counts_fit b.workers b.first count) (all_fit (form_of b.workers b.real count) (map plain b.records.items)) b.fits in
      let few = nat_lt 0 count && nat_le count 16 in
      let numbers = nat_lt 0 b.first && nat_le (b.first + count) (2 ^ 48) in
      let counts = both (nat_lt 0 b.workers && nat_le b.workers 64) (few && numbers) fit.0 in
      let some = both few numbers counts.1 in
      let less = ltb-true 0 count (both (nat_lt 0 count) (nat_le count 16) some.0).0 in
      omega (arith, less, length-map b.records.items plain)

  -- no more batches than records
  pub few_batches : (xs : List (Batch J)) → length xs ≤ length (records_of xs)
  few_batches [] = omega arith
  few_batches (b ∷ xs) =
      omega (arith, has_record b, few_batches xs, length-append (map plain b.records.items) (records_of xs), length-map b.records.items plain)
