-- Records that the flusher takes together.
use Rattle.std.specs.Prelude.{◌≡◌, ◌⊎◌, ◌≤◌, ◌++◌, ℕ, List, [], ◌∷◌, length, All, IsTrue, false, ⊤}
use Rattle.pfx_record.specs.Records.{Recorded, submitted, ran, withdrawn, reweighed}
use Rattle.pfx_record_redo.specs.Applying.{is_common}

module _ {J : Type 0} where
  -- records may be a batch: one alone, or some that aren't of new weights
  abbrev pub MayShare : List (Recorded J) → Type 0
  MayShare [] = ⊤
  MayShare (x ∷ []) = ⊤
  MayShare (x ∷ y ∷ records) = All (λ done. IsTrue (is_common done)) (x ∷ y ∷ records)

  -- the next record may not share a batch with others, if there is one
  abbrev pub StopsAt : List (Recorded J) → Type 0
  StopsAt [] = ⊤
  StopsAt (x ∷ rest) = is_common x ≡ false

  -- what was taken of some records goes as far as a batch may: there are 16, or no more, or the next one may not be of the batch
  abbrev pub GoesFar : List (Recorded J) → List (Recorded J) → Type 0
  GoesFar batch [] = ⊤
  GoesFar batch (x ∷ rest) = (16 ≤ length batch) ⊎ (MayShare (batch ++ x ∷ []) → ⊥)

  -- how many tasks a batch says to be real, if so many are: none, but for new weights, which are as many
  abbrev pub real_for : ℕ → List (Recorded J) → ℕ
  real_for real [] = 0
  real_for real (submitted task job ∷ records) = 0
  real_for real (ran row ∷ records) = 0
  real_for real (withdrawn task ∷ records) = 0
  real_for real (reweighed workers weights ∷ records) = real

  -- the workers behind a batch, if there were so many before it
  abbrev pub width_behind : ℕ → List (Recorded J) → ℕ
  width_behind width [] = width
  width_behind width (submitted task job ∷ records) = width
  width_behind width (ran row ∷ records) = width
  width_behind width (withdrawn task ∷ records) = width
  width_behind width (reweighed workers weights ∷ records) = workers
