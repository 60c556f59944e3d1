-- Kinds of tasks: those whose weights are one fraction.
use Rattle.std.specs.Prelude.{◌≡◌, ℕ, ◌+◌, ◌*◌, ◌==◌, ◌<◌, true, if◌then◌else◌, List, length, slice_index_or, ℤ, pos}
use Rattle.pfx_symbols.specs.declared.keys.Key.{Key}
use Rattle.pfx_symbols.specs.Keys.{keys, key_behind}
use Rattle.pfx_symbols.specs.RankKeys.{first_gap, rank_key}
use Rattle.pfx_symbols.specs.Ranks.{Parts}
use Rattle.pfx_columns.specs.Columns.{natural}
use Rattle.pfx_columns.specs.Ledgers.{Ledger, total, task}

-- two tasks have one weight, as a fraction
abbrev pub HaveOneWeight : Ledger → ℕ → ℕ → Type 0
HaveOneWeight g x y = (task g x).e * (task g y).p ≡ (task g y).e * (task g x).p

-- the same of weights whose parts are these columns
abbrev pub AreOneFraction : List ℤ → List ℤ → ℕ → ℕ → Type 0
AreOneFraction es ps x y =
    natural (slice_index_or es x (pos 0)) * natural (slice_index_or ps y (pos 0)) ≡ natural (slice_index_or es y (pos 0)) * natural (slice_index_or ps x (pos 0))

-- each kind has a first task, and each task a kind, whose first task's weight is the same fraction
pub record AreKinds (es ps : List ℤ) (firsts kinds : List ℕ) : Type 0 where
  pub first : (k : ℕ) → k < length firsts → slice_index_or firsts k 0 < length es
  pub within : (x : ℕ) → x < length kinds → slice_index_or kinds x 0 < length firsts
  pub same : (x : ℕ) → x < length kinds → AreOneFraction es ps x (slice_index_or firsts (slice_index_or kinds x 0) 0)

-- the same of a ledger's tasks
pub record AreKindsIn (g : Ledger) (firsts kinds : List ℕ) : Type 0 where
  pub long : length kinds ≡ total g
  pub first : (k : ℕ) → k < length firsts → slice_index_or firsts k 0 < total g
  pub within : (x : ℕ) → x < total g → slice_index_or kinds x 0 < length firsts
  pub same : (x : ℕ) → x < total g → HaveOneWeight g x (slice_index_or firsts (slice_index_or kinds x 0) 0)

-- the key of a string behind its first gap: that of e/p from phase v on, or the last one if nothing is behind it
abbrev pub key_from : ℕ → ℕ → ℕ → Key
key_from e p v =
    let behind = if v == 0 then record { number = keys; whole = true } else key_behind 24 e p v in
    record { number = behind.number + 1; whole = behind.whole }

-- a rank's string begins with this gap, and has this key by it
pub record IsOf (r : Parts) (i : ℕ) (k : Key) : Type 0 where
  pub gap : i ≡ first_gap r
  pub key : k ≡ rank_key i 24 r
