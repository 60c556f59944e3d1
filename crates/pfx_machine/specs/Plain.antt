-- A state as contracts see it: a start, and every state after it.
use Rattle.std.specs.Prelude.{◌≡◌, ℕ, ◌+◌, ◌<◌, ◌^◌, List, length, replicate, Option, None}
use Rattle.pfx_weights.specs.Sets.{FilledSet, IsOfItsTasks}
use Rattle.pfx_columns.specs.Ledgers.{Ledger, IsLedger, start}

pub record Plain (J : Type 0) : Type 0 where
  -- the number of the last command
  pub number : ℕ
  -- the slot at which the set came into force
  pub from : ℕ
  -- the set, the slot to come, counted from there, and what each task got since then
  pub ledger : Ledger
  -- each real task's job, if it has one, as it is now
  pub jobs : List (Option J)
  -- how many bytes a segment of its store has, which bounds the sets that may come
  pub segment : ℕ

-- the slot to come, counted from the first one of all
abbrev pub whole : {J : Type 0} → Plain J → ℕ
whole s = s.from + s.ledger.slot

-- what each state keeps
pub record IsState {J : Type 0} (s : Plain J) : Type 0 where
  pub number : s.number < 2 ^ 48
  pub slot : whole s < 2 ^ 40
  pub set : IsOfItsTasks s.ledger.set
  pub ledger : IsLedger s.ledger
  pub jobs : length s.jobs ≡ s.ledger.set.real

-- the state of a set before its first command
abbrev pub empty : {J : Type 0} → FilledSet → ℕ → Plain J
empty s segment = record { number = 0; from = 0; ledger = start s; jobs = replicate s.real None; segment = segment }
