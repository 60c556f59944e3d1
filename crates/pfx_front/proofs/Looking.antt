-- Readers that look, one after the other.
use Rattle.std.specs.Prelude.{slice_get}
use Rattle.std.proofs.Common.{◌≡◌, ◌≢◌, ◌⊎◌, ℕ, zero, suc, List, [], ◌∷◌, ◌++◌, length, set, Some, Bool, true, refl, sym, ap, ◌∙◌, subst, arith, append_assoc, append-nil, inl, inr}
use Rattle.std.proofs.lemmas.Option.{none-some, same_Some, slice_get_past, slice_get_within}
use mathlib.Core.List.{IsPrefix}
use Rattle.pfx_record.specs.declared.batch.Batch.{Batch}
use Rattle.pfx_front.specs.Closing.{HaveLooked}

-- what stands at a place of a list with one element set
set_get : {A : Type 0} (xs : List A) (i k : ℕ) (y z : A) → slice_get (set xs i y) k ≡ Some z → ((k ≡ i) × (z ≡ y)) ⊎ ((k ≢ i) × (slice_get xs k ≡ Some z))
set_get [] zero k y z e = absurd (none-some z (sym (slice_get_past [] k (omega arith)) ∙ e))
set_get [] (suc i) k y z e = absurd (none-some z (sym (slice_get_past [] k (omega arith)) ∙ e))
set_get (x ∷ xs) zero zero y z e = inl (refl, sym (same_Some y z e))
set_get (x ∷ xs) zero (suc k) y z e = inr ((λ same. omega (arith, same)), e)
set_get (x ∷ xs) (suc i) zero y z e = inr ((λ same. omega (arith, same)), e)
set_get (x ∷ xs) (suc i) (suc k) y z e = elim (set_get xs i k y z e) [
  | inl here ↦ inl (ap suc here.0, here.1)
  | inr there ↦ inr ((λ same. there.0 (omega (arith, same))), there.1)
]

-- what stands at a place of a list with one element more
last_get : {A : Type 0} (xs : List A) (k : ℕ) (y z : A) → slice_get (xs ++ y ∷ []) k ≡ Some z → ((k ≡ length xs) × (z ≡ y)) ⊎ (slice_get xs k ≡ Some z)
last_get [] zero y z e = inl (refl, sym (same_Some y z e))
last_get [] (suc k) y z e = absurd (none-some z (sym (slice_get_past [] k (omega arith)) ∙ e))
last_get (x ∷ xs) zero y z e = inr e
last_get (x ∷ xs) (suc k) y z e = elim (last_get xs k y z e) [
  | inl here ↦ inl (ap suc here.0, here.1)
  | inr there ↦ inr there
]

pub long_set : {A : Type 0} (xs : List A) (i : ℕ) (y : A) → length (set xs i y) ≡ length xs
long_set [] zero y = refl
long_set [] (suc i) y = refl
long_set (x ∷ xs) zero y = refl
long_set (x ∷ xs) (suc i) y = ap suc (long_set xs i y)

module _ {J : Type 0} (last : List (Batch J)) (old : List (List (Batch J))) where
  then_more : (a b c : List (Batch J)) → IsPrefix a b → IsPrefix b c → IsPrefix a c
  then_more a b c p q = (p.0 ++ q.0, sym (append_assoc a p.0 q.0) ∙ ap (λ l. l ++ q.0) p.1 ∙ q.1)

  -- nobody looked yet
  pub none_looked : (flags : List Bool) → flags ≡ [] → HaveLooked last old old flags
  none_looked flags none k was is before now = (
    ([], append-nil was ∙ same_Some was is (sym before ∙ now)),
    λ flag. absurd (none-some true (sym (slice_get_past [] k (omega arith)) ∙ subst (λ l. slice_get l k ≡ Some true) none flag)),
  )

  module _ (items : List (List (Batch J))) (flags : List Bool) (i : ℕ) (cur new : List (Batch J)) (h : HaveLooked last old items flags) (long : length flags ≡ i)
      (at : slice_get items i ≡ Some cur) (later : IsPrefix cur new) where
    -- one more looked
    pub looked_more : (b : Bool) → (b ≡ true → new ≡ last) → HaveLooked last old (set items i new) (flags ++ b ∷ [])
    looked_more b saw k was is before now = elim (set_get items i k new is now) [
      | inl here ↦ (
        let first = h k was cur before (ap (slice_get items) here.0 ∙ at) in
            subst (IsPrefix was) (sym here.1) (then_more was cur new first.0 later),
        λ flag. elim (last_get flags k b true flag) [
          | inl f ↦ here.1 ∙ saw (sym f.1)
          | inr f ↦ (let less = slice_get_within flags k true f in let same = here.0 in absurd (omega (arith, less, same, long)))
        ],
      )
      | inr there ↦ (
        let first = h k was is before there.1 in
            first.0,
        λ flag. elim (last_get flags k b true flag) [
          | inl f ↦ absurd (there.0 (f.0 ∙ long))
          | inr f ↦ (h k was is before there.1).1 f
        ],
      )
    ]

    -- one more looked, of whom nothing is said
    pub looked_still : HaveLooked last old (set items i new) flags
    looked_still k was is before now = elim (set_get items i k new is now) [
      | inl here ↦ (
        let first = h k was cur before (ap (slice_get items) here.0 ∙ at) in
            subst (IsPrefix was) (sym here.1) (then_more was cur new first.0 later),
        λ flag. let less = slice_get_within flags k true flag in let same = here.0 in absurd (omega (arith, less, same, long)),
      )
      | inr there ↦ h k was is before there.1
    ]
