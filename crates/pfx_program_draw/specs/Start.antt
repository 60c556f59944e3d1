-- Where a drawn plan begins: with the set that bytes are, and a ledger of it.
use Rattle.std.specs.Prelude.{◌≡◌, ◌⊎◌, ⊤, ℕ, List, Option, Some, None}
use Rattle.pfx_columns.specs.Ledgers.{Ledger}
use Rattle.pfx_fault.specs.declared.refusals.Fault.{Fault}
use Rattle.pfx_fault.specs.declared.refusals.Fault.TheVariants as fault
use Rattle.pfx_program_set.specs.SetFile.{SetFile, set_of_bytes}
use Rattle.pfx_program.specs.Plan.{IsStart, StartFails}

-- the bytes are this set file, and a plan of it that a text, if there is one, begins goes on from this ledger
abbrev pub Starts : List ℕ → Option (List ℕ) → SetFile → Ledger → Type 0
Starts bytes at file g = (set_of_bytes bytes ≡ Some file) × IsStart file at g

-- why they are none: no set file, or one whose set or whose ledger is refused as `pfx plan` refuses it
abbrev pub HasNoStart : List ℕ → Option (List ℕ) → Fault → Type 0
HasNoStart bytes at f = ((set_of_bytes bytes ≡ None) × (f ≡ fault.BadSet)) ⊎ ((file : SetFile) × (set_of_bytes bytes ≡ Some file) × StartFails file at f)

-- or they weren't read, or an allocation failed
abbrev pub StartIsRefused : List ℕ → Option (List ℕ) → Fault → Type 0
StartIsRefused bytes at fault.InputFailed = ⊤
StartIsRefused bytes at fault.NoMemory = ⊤
StartIsRefused bytes at other = HasNoStart bytes at other
