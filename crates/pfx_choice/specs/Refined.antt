-- The tasks at the place where the workers run out, told apart by their keys.
use Rattle.std.specs.Prelude.{◌≡◌, ℕ, ◌<◌, ◌==◌, nat_lt, Bool, true, false, if◌then◌else◌, List, [], length, slice_index_or}
use Rattle.pfx_symbols.specs.declared.keys.Key.{Key}
use Rattle.pfx_symbols.specs.Ranks.{Parts}
use Rattle.pfx_symbols.specs.RankKeys.{rank_key}
use Rattle.pfx_columns.specs.Ledgers.{Ledger, total, rank}
use Rattle.pfx_choice.specs.Picks.{ranks_if}
use Rattle.pfx_choice.specs.Places.{place}

-- a task's key
abbrev pub key_in : List Key → ℕ → Key
key_in keys x = slice_index_or keys x (record { number = 0; whole = false })

-- the tasks at place d have their keys, by so many rounds
pub record AreKeysAt (g : Ledger) (d rounds : ℕ) (keys : List Key) : Type 0 where
  pub long : length keys ≡ total g
  pub at : (x : ℕ) → x < total g → place g x ≡ d → key_in keys x ≡ rank_key d rounds (rank g x)

-- 0 for a lesser number, or the same if that is enough; 1 for the same if it isn't; 255 for a greater one
abbrev pub by_number : ℕ → ℕ → Bool → ℕ
by_number number cut enough = if nat_lt number cut then 0 else (if number == cut then (if enough then 0 else 1) else 255)

-- 0 for a task that runs: at a place before d, or at d with a lesser key than this number, or with the same one before `end`
abbrev pub level : Ledger → List Key → ℕ → ℕ → ℕ → ℕ → ℕ
level g keys d number end x = if nat_lt (place g x) d then 0 else (if place g x == d then by_number (key_in keys x).number number (nat_lt x end) else 255)

-- the places before d are those of the tasks that run, and the ranks are those of the others with a key of this number; or that key tells
-- the whole string, and those before `end` run
pub record AreSplit (g : Ledger) (keys : List Key) (d number end : ℕ) (places : List ℕ) (found : List Parts) : Type 0 where
  pub long : length places ≡ total g
  pub before : (x : ℕ) → x < total g → nat_lt (slice_index_or places x 0) d ≡ nat_lt (level g keys d number end x) 1
  pub ranks : end ≡ 0 → found ≡ ranks_if (λ x. level g keys d number end x == 1) (total g) g
  pub none : 0 < end → found ≡ []
  pub whole : 0 < end → (x : ℕ) → x < total g → place g x ≡ d → (key_in keys x).number ≡ number → (key_in keys x).whole ≡ true
