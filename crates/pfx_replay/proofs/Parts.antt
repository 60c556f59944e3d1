-- A list of which the first elements were changed, each by its place.
use Rattle.std.proofs.Common.{◌≡◌, ◌<◌, ◌+◌, ℕ, zero, suc, List, [], ◌∷◌, length, get_or, Bool, refl, ap, ap₂, ◌∙◌, arith}
use Rattle.std.specs.Prelude.{slice_set, if◌then◌else◌, Option}
use Rattle.pfx_weights.specs.Rows.{is_in, one}
use Rattle.pfx_columns.specs.Ledgers.{add}
use Rattle.pfx_jobs.specs.Kind.{Kind}
use Rattle.pfx_machine.specs.declared.plain.Happening.TheVariants.{Ran as ran}
use Rattle.pfx_machine.specs.Steps.{jobs_step, once_job}

module _ {A : Type 0} (f : ℕ → A → A) where
  -- the first n of them are changed, the first of all having place k
  abbrev pub changed : ℕ → ℕ → List A → List A
  changed zero k xs = xs
  changed (suc n) k [] = []
  changed (suc n) k (x ∷ xs) = f k x ∷ changed n (k + 1) xs

  pub changed-length : (n k : ℕ) (xs : List A) → length (changed n k xs) ≡ length xs
  changed-length zero k xs = refl
  changed-length (suc n) k [] = refl
  changed-length (suc n) k (x ∷ xs) = ap suc (changed-length n (k + 1) xs)

  pub changed-rest : (n k : ℕ) (xs : List A) (d : A) → get_or (changed n k xs) n d ≡ get_or xs n d
  changed-rest zero k xs d = refl
  changed-rest (suc n) k [] d = refl
  changed-rest (suc n) k (x ∷ xs) d = changed-rest n (k + 1) xs d

  changed-more : (n k i : ℕ) (xs : List A) (d : A) → i ≡ k + n → n < length xs → slice_set (changed n k xs) n (f i (get_or xs n d)) ≡ changed (suc n) k xs
  changed-more zero k i [] d at within = absurd (omega arith)
  changed-more zero k i (x ∷ xs) d at within = let same : i ≡ k = omega arith in ap (λ j. f j x ∷ xs) same
  changed-more (suc n) k i [] d at within = absurd (omega arith)
  changed-more (suc n) k i (x ∷ xs) d at within = ap (λ ys. f k x ∷ ys) (changed-more n (k + 1) i xs d (omega arith) (omega arith))

  -- one more
  pub change_one : (n : ℕ) (xs old : List A) (v d e : A) → xs ≡ changed n 0 old → n < length old → v ≡ f n (get_or xs n d) → slice_set xs n v ≡ changed (n + 1) 0 old
  change_one n xs old v d e is within new =
      let more : suc n ≡ n + 1 = omega arith in
      ap₂ (λ ys w. slice_set ys n w) is (new ∙ ap (f n) (ap (λ ys. get_or ys n d) is ∙ changed-rest n 0 old d))
      ∙ changed-more n 0 n old d (omega arith) within ∙ ap (λ m. changed m 0 old) more

pub changed-add : (s : ℕ → Bool) (k : ℕ) (xs : List ℕ) → changed (λ x a. a + one (s x)) (length xs) k xs ≡ add s k xs
changed-add s k [] = refl
changed-add s k (x ∷ xs) = ap (λ ys. (x + one (s k)) ∷ ys) (changed-add s (k + 1) xs)

pub changed-jobs : {J : Type 0} (K : Kind J) (row : List ℕ) (k : ℕ) (xs : List (Option J)) → changed (λ x o. if is_in row x then once_job K o else o) (length xs) k xs ≡ jobs_step K k (ran 0 row) xs
changed-jobs K row k [] = refl
changed-jobs K row k (x ∷ xs) = ap (λ ys. (if is_in row k then once_job K x else x) ∷ ys) (changed-jobs K row (k + 1) xs)
