-- Moves of a task from one slot to another. A column is one task's part of a schedule: for each slot whether the task runs.
use Rattle.std.specs.Prelude.{◌≡◌, ℕ, ◌*◌, ◌<◌, ◌≤◌, ◌==◌, Bool, true, false, if◌then◌else◌}
use Rattle.pfx_weights.specs.Rows.{count}

-- before slot i the task, which is due e of p slots, ran in more than it was due
abbrev pub IsAhead : ℕ → ℕ → (ℕ → Bool) → ℕ → Type 0
IsAhead e p c i = e * i < p * count i c

-- or in fewer
abbrev pub IsBehind : ℕ → ℕ → (ℕ → Bool) → ℕ → Type 0
IsBehind e p c i = p * count i c < e * i

-- slot s can be given up for slot v: to a later slot only what is ahead all the way, to an earlier one only what is behind
pub record Move (e p : ℕ) (c : ℕ → Bool) (s v : ℕ) : Type 0 where
  pub from : c s ≡ true
  pub to : c v ≡ false
  pub later : (i : ℕ) → s < i → i ≤ v → IsAhead e p c i
  pub earlier : (i : ℕ) → v < i → i ≤ s → IsBehind e p c i

-- the column that runs in slot v in the place of slot s
abbrev pub moved : ℕ → ℕ → (ℕ → Bool) → ℕ → Bool
moved s v c i = if i == v then true else (if i == s then false else c i)

-- no move between slots before `end` leaves the set S of slots
abbrev pub IsClosed : ℕ → ℕ → (ℕ → Bool) → (ℕ → Bool) → ℕ → Type 0
IsClosed e p c S end = (s v : ℕ) → s < end → v < end → S s ≡ true → Move e p c s v → S v ≡ true

-- the column within a set of slots
abbrev pub inside : (ℕ → Bool) → (ℕ → Bool) → ℕ → Bool
inside S c s = if S s then c s else false
