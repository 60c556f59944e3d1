-- What is so of each window, and of lags over a part of a history.
use Rattle.std.specs.Prelude.{◌≡◌, ◌≤◌, ◌<◌, ℕ, ◌+◌, ◌*◌, max, ℤ, pos, ◌+ℤ◌, ◌-ℤ◌, List, [], ◌∷◌, length, Option, Some, None, Ok, ⊤, All}
use Rattle.std.specs.List.{count_by}
use Rattle.pfx_columns.specs.Lags.{lag_of}
use Rattle.pfx_columns.specs.Ledgers.{task}
use Rattle.pfx_jobs.specs.Kind.{Kind}
use Rattle.pfx_machine.specs.Choosing.{row_in}
use Rattle.pfx_machine.specs.Plain.{Plain}
use Rattle.pfx_record.specs.Records.{Recorded, submitted, ran, withdrawn, reweighed, tasks_of}
use Rattle.pfx_replay_totals.specs.Slots.{Slot, share_of}
use Rattle.pfx_replay_totals.specs.States.{next_state, reached, slots_behind}
use Rattle.pfx_replay_totals.specs.Windows.{Window}

-- one set's weights are in force throughout
abbrev pub IsOneSet : Window → Type 0
IsOneSet w = All (λ s. s.since ≡ w.first.since) w.others

-- so many slots are within a limit, which is one at the least, if there is a limit
abbrev pub IsShort : Option ℕ → ℕ → Type 0
IsShort None n = ⊤
IsShort (Some limit) n = n ≤ max 1 limit

-- how many of these slots a task got
abbrev pub got_in : ℕ → List Slot → ℕ
got_in x slots = count_by (λ s. (share_of s x).got) slots

-- the numerator of a task's lag in a state
abbrev pub lag_in : {J : Type 0} → Plain J → ℕ → ℤ
lag_in s x = lag_of (task s.ledger x).e (task s.ledger x).p (task s.ledger x).alloc s.ledger.slot

module _ {J : Type 0} (K : Kind J) where
  -- a record is of no new weights, and its row is PF's if it is of a slot
  abbrev pub IsSteady : Plain J → Recorded J → Type 0
  IsSteady s (submitted task job) = ⊤
  IsSteady s (ran row) = row_in s ≡ Ok (tasks_of row)
  IsSteady s (withdrawn task) = ⊤
  IsSteady s (reweighed workers weights) = ⊥

  abbrev pub AreSteady : Plain J → List (Recorded J) → Type 0
  AreSteady s [] = ⊤
  AreSteady s (one ∷ records) = IsSteady s one × AreSteady (next_state K s one) records

  -- over these records the task's lag grows by what it was due less what it got, over its period
  abbrev pub GrowsByDue : Plain J → List (Recorded J) → ℕ → Type 0
  GrowsByDue s records x =
      let slots = slots_behind K s records in
      let due = (task s.ledger x).e * length slots in
      let got = (task s.ledger x).p * got_in x slots in
      lag_in (reached K s records) x ≡ lag_in s x +ℤ (pos due -ℤ pos got)

  -- what it was due and what it got differ by less than two slots
  abbrev pub IsNear : Plain J → List (Recorded J) → ℕ → Type 0
  IsNear s records x =
      let slots = slots_behind K s records in
      let due = (task s.ledger x).e * length slots in
      let got = (task s.ledger x).p * got_in x slots in
      (due < got + 2 * (task s.ledger x).p) × (got < due + 2 * (task s.ledger x).p)
