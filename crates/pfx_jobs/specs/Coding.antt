-- A kind of job by its plain numbers: which of them are a state, how they are written, and where they stand in the
-- bytes. Bytes give a state if the numbers in them are one and are written as these very bytes.
use Rattle.std.specs.Prelude.{◌≡◌, ℕ, Bool, true, false, List, length, Option, Some, None, IsTrue, refl}
use Rattle.std.specs.Str.{bytes_eq}
use Rattle.pfx_jobs.specs.Kind.{Kind}

-- F is the type of the plain numbers, J the type of the states
pub record Coding (F J : Type 0) : Type 0 where
  -- whether numbers are a state
  pub fits : F → Bool
  -- the numbers of a state
  pub fields : J → F
  -- the state of numbers that are one
  pub made : (f : F) → IsTrue (fits f) → J
  -- the bytes that numbers are written as
  pub spelled : F → List ℕ
  -- the numbers that stand at their places in bytes
  pub found : List ℕ → F

pub record CodingLaws {F J : Type 0} (C : Coding F J) : Type 0 where
  pub fields_fit : (s : J) → IsTrue (C.fits (C.fields s))
  pub made_again : (s : J) (fit : IsTrue (C.fits (C.fields s))) → C.made (C.fields s) fit ≡ s
  pub made_of : (f : F) (fit : IsTrue (C.fits f)) → C.fields (C.made f fit) ≡ f
  pub found_again : (s : J) → C.found (C.spelled (C.fields s)) ≡ C.fields s
  pub long : (s : J) → length (C.spelled (C.fields s)) ≡ 128

-- the state of the numbers, if they fit and the bytes are theirs
abbrev pub checked : {F J : Type 0} (C : Coding F J) (f : F) (fit : Bool) → C.fits f ≡ fit → (same : Bool) → Option J
checked C f true fits true = Some (C.made f fits)
checked C f true fits false = None
checked C f false fits same = None

abbrev pub decoded_by : {F J : Type 0} → Coding F J → List ℕ → Option J
decoded_by C bytes = checked C (C.found bytes) (C.fits (C.found bytes)) refl (bytes_eq bytes (C.spelled (C.found bytes)))

-- the kind of a coding, of the steps left and of the step
abbrev pub kind_by : {F J : Type 0} → Coding F J → (J → ℕ) → (J → J) → Kind J
kind_by C left stepped = record { left = left; stepped = stepped; spelling = λ s. C.spelled (C.fields s); decoded = decoded_by C }
