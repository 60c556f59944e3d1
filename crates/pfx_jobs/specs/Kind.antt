-- What a kind of job means, and what every kind keeps.
use Rattle.std.specs.Prelude.{◌≡◌, ℕ, ◌+◌, ◌<◌, List, length, Option, Some}

pub record Kind (J : Type 0) : Type 0 where
  -- how many steps are left
  pub left : J → ℕ
  -- the state after one step
  pub stepped : J → J
  -- the bytes that a state is written as
  pub spelling : J → List ℕ
  -- the state that bytes give, if any
  pub decoded : List ℕ → Option J

pub record Laws {J : Type 0} (K : Kind J) : Type 0 where
  -- a step of a state that is not done lowers the steps left by one
  pub counts_down : (s : J) → 0 < K.left s → K.left (K.stepped s) + 1 ≡ K.left s
  -- an encoding has 128 bytes
  pub long : (s : J) → length (K.spelling s) ≡ 128
  -- what is written is read back
  pub round_trip : (s : J) → K.decoded (K.spelling s) ≡ Some s
  -- only what is written is read
  pub only_encodings : (bytes : List ℕ) (s : J) → K.decoded bytes ≡ Some s → K.spelling s ≡ bytes
