-- What whoever takes a batch can tell of it.
use Rattle.std.specs.Prelude.{All, IsTrue, ◌&&◌, nat_lt, nat_le}
use Rattle.std.specs.List.{list_all}
use Rattle.std.proofs.Common.{◌≡◌, ℕ, zero, suc, ◌<◌, ◌==◌, List, [], ◌∷◌, length, false, ne_eqb, refl, sym, ◌∙◌, arith}
use Rattle.std.proofs.lemmas.Bool.{false≢true}
use Rattle.pfx_record.specs.Batches.{all_fit, batch_fits, counts_fit}
use Rattle.pfx_record.specs.Records.{form_of, is_small, record_fits, Recorded, submitted, ran, takes_weights, withdrawn, reweighed}
use Rattle.pfx_record.specs.declared.form.Form.{Form}
use Rattle.pfx_record.proofs.Rising.{both}
use Rattle.pfx_record_redo.specs.Applying.{is_common}
use Rattle.pfx_book.specs.Batching.{MayShare, real_for}
use Rattle.pfx_book.proofs.Sharing.{only}

module _ {J : Type 0} where
  -- by its type it is of one record, or of some of which none is of new weights
  alone_or_common : (form : Form) (x : Recorded J) → form.alone ≡ false → IsTrue (record_fits form x) → IsTrue (is_common x)
  alone_or_common form (submitted task job) others fits = refl
  alone_or_common form (ran row) others fits = refl
  alone_or_common form (withdrawn task) others fits = refl
  alone_or_common form (reweighed m weights) others fits =
      let takes = (both (takes_weights form) ((length weights == form.real) && (nat_lt m 256 && list_all is_small weights)) fits).0 in
      absurd (false≢true (sym others ∙ (both form.alone (nat_lt 0 form.real && nat_le form.real 1024) takes).0))

  all_among : (form : Form) (xs : List (Recorded J)) → form.alone ≡ false → IsTrue (all_fit form xs) → All (λ done. IsTrue (is_common done)) xs
  all_among form [] others fits k d l = absurd (omega (arith, l))
  all_among form (x ∷ xs) others fits zero d l = alone_or_common form x others (both (record_fits form x) (all_fit form xs) fits).0
  all_among form (x ∷ xs) others fits (suc k) d l = all_among form xs others (both (record_fits form x) (all_fit form xs) fits).1 k d (omega (arith, l))

  pub fits_share : (workers real first : ℕ) (xs : List (Recorded J)) → IsTrue (batch_fits workers real (record { first = first; records = xs })) → MayShare xs
  fits_share workers real first [] fits = tt
  fits_share workers real first (x ∷ []) fits = tt
  fits_share workers real first (x ∷ y ∷ xs) fits =
      let count = length (x ∷ y ∷ xs) in
      all_among (form_of workers real count) (x ∷ y ∷ xs) (ne_eqb count 1 (λ one. omega (arith, one))) (both (counts_fit workers first count) (all_fit (form_of workers real count) (x ∷ y ∷ xs)) fits).1

  -- by how many tasks it says to be real, whether it is of new weights
  no_real : (n : ℕ) (x : Recorded J) (xs : List (Recorded J)) → IsTrue (is_common x) → real_for n (x ∷ xs) ≡ 0
  no_real n (submitted task job) xs common = refl
  no_real n (ran row) xs common = refl
  no_real n (withdrawn task) xs common = refl
  no_real n (reweighed m weights) xs common = absurd (false≢true common)

  one_common : (n : ℕ) (x : Recorded J) → 0 < n → real_for n (x ∷ []) ≡ 0 → IsTrue (is_common x)
  one_common n (submitted task job) some none = refl
  one_common n (ran row) some none = refl
  one_common n (withdrawn task) some none = refl
  one_common n (reweighed m weights) some none = absurd (omega (arith, some, none))

  pub none_new : (n : ℕ) (xs : List (Recorded J)) → 0 < n → MayShare xs → real_for n xs ≡ 0 → All (λ done. IsTrue (is_common done)) xs
  none_new n [] some share none = λ k d l. absurd (omega (arith, l))
  none_new n (x ∷ []) some share none = only x (one_common n x some none)
  none_new n (x ∷ y ∷ xs) some share none = share

  new_one : (n : ℕ) (x : Recorded J) → (real_for n (x ∷ []) ≡ 0 → ⊥) → (m : ℕ) × (weights : List (ℕ × ℕ)) × (x ∷ [] ≡ reweighed m weights ∷ [])
  new_one n (submitted task job) some = absurd (some refl)
  new_one n (ran row) some = absurd (some refl)
  new_one n (withdrawn task) some = absurd (some refl)
  new_one n (reweighed m weights) some = (m, weights, refl)

  pub one_new : (n : ℕ) (xs : List (Recorded J)) → MayShare xs → (real_for n xs ≡ 0 → ⊥) → (m : ℕ) × (weights : List (ℕ × ℕ)) × (xs ≡ reweighed m weights ∷ [])
  one_new n [] share some = absurd (some refl)
  one_new n (x ∷ []) share some = new_one n x some
  one_new n (x ∷ y ∷ xs) share some = absurd (some (no_real n x (y ∷ xs) (share 0 x (omega arith))))
