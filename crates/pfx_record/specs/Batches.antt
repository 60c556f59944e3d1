-- Batches as contracts see them, and their one spelling.
use Rattle.std.specs.Prelude.{ℕ, ◌+◌, ◌*◌, ◌^◌, Bool, ◌&&◌, nat_lt, nat_le, max, List, [], ◌∷◌, ◌++◌, length, map}
use Rattle.std.specs.List.{list_all}
use Rattle.pfx_jobs.specs.Kind.{Kind}
use Rattle.pfx_record.specs.Numbers.{number_bytes}
use Rattle.pfx_record.specs.Records.{Recorded, form_of, plain, record_fits, records_bytes}
use Rattle.pfx_disk.specs.declared.gates.TheConstants.{GATE_OPEN}
use Rattle.pfx_record.specs.declared.form.Form.{Form}
use Rattle.pfx_record.specs.declared.record.Record.{Record}

-- the number of the first command, and the records of it and those after it
pub record PlainBatch (J : Type 0) : Type 0 where
  pub first : ℕ
  pub records : List (Recorded J)

abbrev pub batch_of : {J : Type 0} → ℕ → List (Record J) → PlainBatch J
batch_of first records = record { first = first; records = map plain records }

abbrev pub all_fit : {J : Type 0} → Form → List (Recorded J) → Bool
all_fit form records = list_all (record_fits form) records

-- 1 to 16 commands, whose numbers are 1 to 2 ^ 48 - 1, and rows of 1 to 64 tasks
abbrev pub counts_fit : ℕ → ℕ → ℕ → Bool
counts_fit workers first count = (nat_lt 0 workers && nat_le workers 64) &&
    ((nat_lt 0 count && nat_le count 16) && (nat_lt 0 first && nat_le (first + count) (2 ^ 48)))

-- the batch has a spelling if the rows have so many tasks, and so many tasks are real
abbrev pub batch_fits : {J : Type 0} → ℕ → ℕ → PlainBatch J → Bool
batch_fits workers real batch = counts_fit workers batch.first (length batch.records) && all_fit (form_of workers real (length batch.records)) batch.records

-- an open gate, the length of the records, the first number and the count
abbrev pub head_bytes : ℕ → ℕ → ℕ → List ℕ
head_bytes len first count = (GATE_OPEN ∷ []) ++ number_bytes 4 len ++ number_bytes 8 first ++ number_bytes 2 count

-- the spelling: the head and the records
unfoldable pub batch_bytes : {J : Type 0} → Kind J → PlainBatch J → List ℕ
batch_bytes K batch =
    let body = records_bytes K batch.records in
    head_bytes (length body) batch.first (length batch.records) ++ body

-- how many bytes a batch has at the most if rows have so many tasks and so many tasks are real: the head, and either 16 slots with a
-- state for each task or a weight for each real one
abbrev pub batch_most : ℕ → ℕ → ℕ
batch_most workers real = max (31 + 2096 * workers) (17 + 8 * real)
