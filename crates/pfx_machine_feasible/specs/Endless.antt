-- Ledgers from which fair schedules of every length go on.
use Rattle.std.specs.Prelude.{◌≡◌, ℕ, List, length}
use Rattle.pfx_weights.specs.Rows.{is_in, Schedule}
pub use Rattle.pfx_columns.specs.Levels.{IsLevel}
use Rattle.pfx_columns.specs.Ledgers.{Ledger, after}
use Rattle.pfx_choice.specs.Choices.{IsPfRow}
use Rattle.pfx_choice.specs.Schedules.{IsFairSchedule}

-- for each number of slots there is a fair schedule of so many
abbrev pub IsEndless : Ledger → Type 0
IsEndless g = (slots : ℕ) → (rows : Schedule) × (length rows ≡ slots) × IsFairSchedule g rows

-- a slot was given to PF's row, and it goes on without end
pub record IsNextOf (old : Ledger) (row : List ℕ) (new : Ledger) : Type 0 where
  pub pf : IsPfRow old row
  pub next : new ≡ after old (is_in row)
  pub endless : IsEndless new
