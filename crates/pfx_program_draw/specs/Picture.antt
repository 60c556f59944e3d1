-- The picture that is made of a set file's bytes.
use Rattle.std.specs.Prelude.{◌≡◌, ◌⊎◌, ⊤, ℕ, List, Option, Some, None}
use Rattle.pfx_weights.specs.Rows.{Schedule}
use Rattle.pfx_columns.specs.Ledgers.{Ledger, total}
use Rattle.pfx_choice.specs.Dooms.{IsDoomed}
use Rattle.pfx_choice.specs.declared.faults.ChoiceFault.{ChoiceFault}
use Rattle.pfx_fault.specs.declared.refusals.Fault.{Fault}
use Rattle.pfx_fault.specs.declared.refusals.Fault.TheVariants as fault
use Rattle.pfx_program_set.specs.SetFile.{SetFile}
use Rattle.pfx_choice_refusals.specs.Faults.{fault_of_choice}
use Rattle.pfx_program_draw.specs.Drawing.{IsDrawing, IsTooLarge}
use Rattle.pfx_program_draw.specs.Start.{Starts, HasNoStart}

-- the picture of the plan with which the bytes and a text begin; none if it would be too large
abbrev pub Pictures : List ℕ → Option (List ℕ) → List ℕ → ℕ → Option (List ℕ) → Type 0
Pictures bytes at name slots None = (file : SetFile) × (g : Ledger) × Starts bytes at file g × IsTooLarge (total g) slots
Pictures bytes at name slots (Some text) = (file : SetFile) × (g : Ledger) × Starts bytes at file g × IsDrawing name file.tasks g slots text

-- a slot of the plan has no row
abbrev pub HasNoRow : List ℕ → Option (List ℕ) → ℕ → Fault → Type 0
HasNoRow bytes at slots f =
    (file : SetFile) × (g : Ledger) × (cause : ChoiceFault) × (slot : ℕ) × (rows : Schedule) × Starts bytes at file g
    × IsDoomed g slots slot cause rows × (f ≡ fault_of_choice cause)

-- why there is no picture
abbrev pub PictureFails : List ℕ → Option (List ℕ) → ℕ → Fault → Type 0
PictureFails bytes at slots fault.InputFailed = ⊤
PictureFails bytes at slots fault.NoMemory = ⊤
PictureFails bytes at slots other = HasNoStart bytes at other ⊎ HasNoRow bytes at slots other
