-- The log that an image holds.
use Rattle.std.specs.Prelude.{◌≡◌, ◌≢◌, ◌≤◌, ◌⊎◌, ℕ, List, [], ◌∷◌, ◌++◌, length, drop}
use Rattle.pfx_disk.specs.declared.gates.TheConstants.{GATE_OPEN}
use Rattle.pfx_log.specs.Logs.{AreBytes, IsLog, Log, last_head, last_number, log_bytes}
use Rattle.pfx_log.specs.declared.place.LogPlace.{LogPlace}
use Rattle.sha2.specs.Sha256.{sha256}

-- the image begins with these bytes, and a closed gate stands behind them
pub record IsShutBehind (front image : List ℕ) : Type 0 where
  pub gate : ℕ
  pub rest : List ℕ
  pub whole : image ≡ front ++ gate ∷ rest
  pub shut : gate ≢ GATE_OPEN

-- the image is the log, and behind it a closed gate and anything
pub record Holds (image : List ℕ) (log : Log) : Type 0 where
  pub is_log : IsLog log
  pub stands : IsShutBehind (log_bytes log) image

-- a byte at most, or a closed first gate: no log yet
abbrev pub IsUnmade : List ℕ → Type 0
IsUnmade image = (length image ≤ 1) ⊎ IsShutBehind [] image

-- the place is where the log ends
pub record IsEnd (log : Log) (place : LogPlace) : Type 0 where
  pub at : place.at ≡ length (log_bytes log)
  pub last : place.last ≡ last_number log
  pub head : place.head ≡ last_head log

-- the image begins with the log, which ends at this place; what stands behind it doesn't matter
pub record Begins (log : Log) (place : LogPlace) (image : List ℕ) : Type 0 where
  pub is_log : IsLog log
  pub end : IsEnd log place
  pub whole : image ≡ log_bytes log ++ drop place.at image

-- two strings of bytes with one SHA-256
pub record Collision : Type 0 where
  pub one : List ℕ
  pub other : List ℕ
  pub one_bytes : AreBytes one
  pub other_bytes : AreBytes other
  pub differ : one ≢ other
  pub same : sha256 one ≡ sha256 other
