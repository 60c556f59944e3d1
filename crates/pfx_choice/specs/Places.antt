-- Each task's place in the order so far: by the end of its next subtask.
use Rattle.std.specs.Prelude.{◌≡◌, ◌≢◌, ℕ, ◌+◌, ◌-◌, ◌*◌, ◌/◌, ◌<◌, min, nat_lt, if◌then◌else◌, List, length, slice_index_or}
use Rattle.pfx_columns.specs.Ledgers.{Ledger, total, task}

-- the slots before the one at whose end the task's next subtask ends: if its lag is l, (p - l - 1) / e
abbrev pub lead : ℕ → ℕ → ℕ → ℕ → ℕ
lead e p a t = (p * a + p - e * t - 1) / e

-- so many, or 254 if they are more
abbrev pub near : Ledger → ℕ → ℕ
near g x = min (lead (task g x).e (task g x).p (task g x).alloc g.slot) 254

-- 255 if it may not run now, else so many slots, at most 254; 0 is a task that has to run now
abbrev pub place_by : ℕ → ℕ → ℕ → ℕ → ℕ → ℕ
place_by e p a t k = if nat_lt (p * a) (e * (t + 1)) then min k 254 else 255

abbrev pub place : Ledger → ℕ → ℕ
place g x = place_by (task g x).e (task g x).p (task g x).alloc g.slot (lead (task g x).e (task g x).p (task g x).alloc g.slot)

-- the place of each task
pub record ArePlacesIn (g : Ledger) (places : List ℕ) : Type 0 where
  pub long : length places ≡ total g
  pub at : (x : ℕ) → x < total g → slice_index_or places x 0 ≡ place g x

-- the lead of each task
pub record AreLeadsIn (g : Ledger) (leads : List ℕ) : Type 0 where
  pub long : length leads ≡ total g
  pub at : (x : ℕ) → x < total g → slice_index_or leads x 0 ≡ near g x

-- each task's lead, or 255
pub record AreNear (g : Ledger) (leads : List ℕ) : Type 0 where
  pub long : length leads ≡ total g
  pub at : (x : ℕ) → x < total g → slice_index_or leads x 0 ≢ 255 → slice_index_or leads x 0 ≡ near g x
