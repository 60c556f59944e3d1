-- What a drawn lag is.
use Rattle.std.specs.Prelude.{◌≡◌, ◌-◌, ◌*◌, ℕ}
use Rattle.pfx_weights.specs.Rows.{Schedule}
use Rattle.pfx_columns.specs.Ledgers.{Ledger, task}
use Rattle.pfx_program_draw.specs.Drawing.{course_of, marks_of}
use Rattle.pfx_program_draw.specs.Lags.{behind_by, ahead_by, runs_in}

-- behind i rows the task is drawn as far behind, and as far ahead, as it is at a ledger
pub record DrawsLagOf (g : Ledger) (rows : Schedule) (x i : ℕ) (now : Ledger) : Type 0 where
  pub behind : behind_by (course_of g x) i (runs_in (marks_of rows x) i) ≡ (task now x).e * now.slot - (task now x).p * (task now x).alloc
  pub ahead : ahead_by (course_of g x) i (runs_in (marks_of rows x) i) ≡ (task now x).p * (task now x).alloc - (task now x).e * now.slot
