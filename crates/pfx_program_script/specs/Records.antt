-- The records of a script, and what reading them one at a time gives.
use Rattle.std.specs.Prelude.{◌≡◌, ◌<◌, ◌⊎◌, ⊤, ℕ, ◌+◌, ◌-◌, ◌^◌, if◌then◌else◌, Bool, true, false, List, [], ◌∷◌, length, Option, Some, None, IfSome, option_map}
use Rattle.csv.specs.Reading.{Ready, records, records_from, default_config, strip_bom, source_of}
use Rattle.csv.specs.declared.parser.State.{State}
use Rattle.csv.specs.declared.parser.State.TheVariants as st
use Rattle.csv.specs.declared.reader.Reader.{Reader}
use Rattle.csv.specs.declared.reader.Trim.TheVariants as trim
use Rattle.csv.specs.declared.error.ErrorKind.{ErrorKind}
use Rattle.csv.specs.declared.error.ErrorKind.TheVariants as kind
use Rattle.pfx_program_script.specs.Verbs.{verb_of}
use Rattle.pfx_fault.specs.declared.refusals.Fault.{Fault}
use Rattle.pfx_fault.specs.declared.refusals.Fault.TheVariants as fault

-- a record: its fields
abbrev pub Fields : Type 0
Fields = List (List ℕ)

-- the records of a script's bytes; a byte order mark in front is passed over
abbrev pub script_records : List ℕ → List Fields
script_records bytes = records default_config (strip_bom bytes)

-- a script as its callers see it: the records that are left, if the bytes are known, how many were read, whether reading has failed,
-- whether the last answer of its reader was an error, and whether its reader has given the next record to its end
pub record Records : Type 0 where
  pub left : Option (List Fields)
  pub place : ℕ
  pub failed : Bool
  pub broken : Bool
  pub ready : Bool

-- a script of which nothing was read yet
abbrev pub unread : Option (List ℕ) → Records
unread bytes = record { left = option_map script_records bytes; place = 0; failed = false; broken = false; ready = false }

-- so many records are at least those of the bytes that are left
abbrev pub Covers : ℕ → State → List ℕ → Type 0
Covers n s xs = (length xs < n) ⊎ ((s ≡ st.StartRecord) × (xs ≡ []))

-- the records that a reader has left
abbrev pub records_left : {R : Type 0} → (R → Option (List ℕ)) → Reader R → Option (List Fields)
records_left rem r = option_map (λ y. records_from default_config (length y + 1) r.state y) (source_of rem r)

-- the reader reads as scripts are read
pub record ReadsScripts {R : Type 0} (r : Reader R) : Type 0 where
  pub trim : r.trim ≡ trim.None
  pub ready : Ready r
  pub config : r.config ≡ default_config
  pub flexible : r.flexible ≡ true

-- a record was read: it is the first of those that were left, and the others are left
abbrev pub Takes : Records → Fields → Records → Type 0
Takes old fields new = (new.place ≡ old.place + 1) × (new.failed ≡ false)
    × IfSome old.left (λ rows. (rest : List Fields) × (rows ≡ fields ∷ rest) × (new.left ≡ Some rest))

-- whether there was a record
abbrev pub Reads : Records → Bool → Fields → Records → Type 0
Reads old true fields new = Takes old fields new
Reads old false fields new = (new.place ≡ old.place) × (new.failed ≡ false) × IfSome old.left (λ rows. rows ≡ [])

-- why no record was read: the next one is no text and so has no form, or the reader or the memory failed
abbrev pub ReadFails : Records → Fault → Type 0
ReadFails old (fault.BadScript at) = (at ≡ old.place + 1)
    × IfSome old.left (λ rows. (fields : Fields) × (rest : List Fields) × (rows ≡ fields ∷ rest) × (verb_of fields ≡ None))
ReadFails old fault.InputFailed = ⊤
ReadFails old fault.NoMemory = ⊤
ReadFails old other = ⊥

-- that the reader has failed is said if its last answer was an error, if reading had failed before, or if no further record can be counted
abbrev pub IsUnread : Records → Records → Type 0
IsUnread old new = (new.broken ≡ true) ⊎ ((old.failed ≡ true) ⊎ (old.place ≡ 2 ^ 64 - 1))

-- what is answered if `csv` refused the read of the record at a place, over a reader that has failed or hasn't
abbrev pub Reports : ErrorKind → Bool → ℕ → Fault → Type 0
Reports (kind.Io e) broken at f = f ≡ (if broken then fault.InputFailed else fault.NoMemory)
Reports kind.OutOfMemory broken at f = f ≡ fault.NoMemory
Reports other broken at f = f ≡ fault.BadScript at
