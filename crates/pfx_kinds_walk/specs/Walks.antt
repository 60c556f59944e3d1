-- The numbers and the bytes of a Walk.
use Rattle.std.specs.Prelude.{ℕ, ◌+◌, ◌-◌, ◌*◌, ◌%◌, ◌^◌, Bool, ◌&&◌, nat_lt, if◌then◌else◌, List, ◌∷◌, ◌++◌, replicate, drop}
use Rattle.byteorder.specs.Endian.{little_bytes, little_number}

pub record WalkFields : Type 0 where
  -- the steps left
  pub left : ℕ
  -- the number drawn last
  pub seed : ℕ
  pub place : ℕ

-- the numbers fit their types
abbrev pub walk_fits : ℕ → ℕ → ℕ → Bool
walk_fits left seed place = nat_lt left (2 ^ 32) && nat_lt seed (2 ^ 64) && nat_lt place (2 ^ 64)

-- the number that is drawn after a number
unfoldable pub drawn : ℕ → ℕ
drawn seed = (seed * 6364136223846793005 + 1442695040888963407) % 2 ^ 64

-- the place after a step: one up if the number drawn is in the upper half of the 64-bit numbers, else one down, and
-- the ends of the line meet
unfoldable pub moved : ℕ → ℕ → ℕ
moved place drawn = if nat_lt drawn (2 ^ 63) then (place + (2 ^ 64 - 1)) % 2 ^ 64 else (place + 1) % 2 ^ 64

-- the 128 bytes: the kind 200, the steps left, the number drawn last, the place, and zeros
unfoldable pub walk_bytes : WalkFields → List ℕ
walk_bytes f = (200 ∷ little_bytes 4 f.left ++ little_bytes 8 f.seed ++ little_bytes 8 f.place) ++ replicate 107 0

-- the numbers at their places in bytes
abbrev pub walk_found : List ℕ → WalkFields
walk_found bytes = record {
  left = little_number 4 (drop 1 bytes);
  seed = little_number 8 (drop 5 bytes);
  place = little_number 8 (drop 13 bytes);
}
