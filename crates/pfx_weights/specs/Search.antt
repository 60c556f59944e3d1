-- The first place of a byte.
use Rattle.std.specs.Prelude.{◌≡◌, ◌≢◌, ℕ, ◌+◌, ◌<◌, ◌≤◌, ◌^◌, ◌==◌, if◌then◌else◌, List, length, slice_index_or}
use Rattle.std.specs.Int.{w64, bit_at, trailing_zeros}

-- the byte doesn't stand at these places
abbrev pub IsNowhere : List ℕ → ℕ → ℕ → ℕ → Type 0
IsNowhere bytes byte from to = (k : ℕ) → from ≤ k → k < to → slice_index_or bytes k 0 ≢ byte

-- the place of the lowest bit that is set, or 16
abbrev pub first_set : ℕ → ℕ
first_set mask = if mask == 0 then 16 else trailing_zeros w64 mask

-- of the sixteen places from `at` on, the bits of the mask are set where the byte stands
pub record IsMaskOf (bytes : List ℕ) (byte at mask : ℕ) : Type 0 where
  pub few : mask < 2 ^ 16
  pub bits : (k : ℕ) → k < 16 → bit_at mask k ≡ (if slice_index_or bytes (at + k) 0 == byte then 1 else 0)

-- of the n places from `at` on, the byte stands first at the r-th, or at none if that is n
pub record IsFirstOf (bytes : List ℕ) (byte at n r : ℕ) : Type 0 where
  pub within : r ≤ n
  pub none : IsNowhere bytes byte at (at + r)
  pub found : r < n → slice_index_or bytes (at + r) 0 ≡ byte

-- from `at` on, the byte stands first at x, or at no place if that is the end
pub record IsFirstFrom (bytes : List ℕ) (byte at x : ℕ) : Type 0 where
  pub low : at ≤ x
  pub high : x ≤ length bytes
  pub none : IsNowhere bytes byte at x
  pub found : x < length bytes → slice_index_or bytes x 0 ≡ byte
