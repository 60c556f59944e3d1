-- The frames that a file has behind a number.
use Rattle.std.specs.Prelude.{◌≡◌, ◌<◌, ℕ, List, [], ◌++◌}
use Rattle.pfx_store_image.specs.Codec.{Codec}
use Rattle.pfx_store_image.specs.Store.{Numbers, Parts}

-- all frames of a file, in their order
abbrev pub all_frames : {S : Type 0} → Parts S → List (List ℕ)
all_frames p = p.before ++ p.frames

module _ {H S : Type 0} (K : Codec H S) where
  -- Of these frames, which begin behind the one number, the rest are those behind the other: the ones before them lead there.
  pub record StandBehind (n : ℕ) (frames : List (List ℕ)) (last : ℕ) (rest : List (List ℕ)) : Type 0 where
    pub front : List (List ℕ)
    pub whole : frames ≡ front ++ rest
    pub reaches : Numbers K n front last

  -- There are none such: the frames begin behind that number, or end before it, or one of them has it within.
  abbrev pub IsGap : ℕ → List (List ℕ) → ℕ → Type 0
  IsGap n frames last = (rest : List (List ℕ)) → ¬ StandBehind n frames last rest

  -- Of the frames, those behind this number are the next ones; where it lies before the number that is sought there are none.
  abbrev pub GoOnBehind : ℕ → List (List ℕ) → ℕ → ℕ → Type 0
  GoOnBehind n frames last at = (rest : List (List ℕ)) × StandBehind n frames at rest × (at < last → rest ≡ [])
