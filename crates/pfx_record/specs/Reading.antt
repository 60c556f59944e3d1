-- What reading finds, and where it stops.
use Rattle.std.specs.Prelude.{◌≡◌, ◌≤◌, ◌<◌, ◌⊎◌, ℕ, ◌+◌, ◌^◌, List, length, take, drop, IsTrue, ⊤}
use Rattle.pfx_jobs.specs.Kind.{Kind}
use Rattle.pfx_record.specs.Begins.{Begins}
use Rattle.pfx_record.specs.Records.{Recorded, form_of, record_fits, record_bytes, records_bytes}
use Rattle.pfx_record.specs.Batches.{PlainBatch, all_fit, batch_bytes, batch_fits, counts_fit, head_bytes}
use Rattle.pfx_record.specs.declared.form.Form.{Form}
use Rattle.pfx_record.specs.declared.faults.BatchFault.{BatchFault}
use Rattle.pfx_record.specs.declared.faults.BatchFault.TheVariants.{Damaged, NoMemory}
use Rattle.pfx_record.specs.declared.faults.FramePart.{FramePart}
use Rattle.pfx_record.specs.declared.faults.FramePart.TheVariants.{Frame, Record}

-- the bytes begin with this record, which takes so many of them
pub record IsRecord {J : Type 0} (K : Kind J) (form : Form) (bytes : List ℕ) (read : Recorded J) (taken : ℕ) : Type 0 where
  pub fits : IsTrue (record_fits form read)
  pub begins : Begins bytes (record_bytes K read)
  pub long : taken ≡ length (record_bytes K read)

-- the bytes begin with no record
abbrev pub NoRecord : {J : Type 0} → Kind J → Form → List ℕ → Type 0
NoRecord {J} K form bytes = (other : Recorded J) → IsTrue (record_fits form other) → Begins bytes (record_bytes K other) → ⊥

-- the bytes begin with this batch, which takes so many of them
pub record IsBatch {J : Type 0} (K : Kind J) (workers real : ℕ) (bytes : List ℕ) (read : PlainBatch J) (taken : ℕ) : Type 0 where
  pub fits : IsTrue (batch_fits workers real read)
  pub begins : Begins bytes (batch_bytes K read)
  pub long : taken ≡ length (batch_bytes K read)

-- the bytes begin with no batch
abbrev pub NoBatch : {J : Type 0} → Kind J → ℕ → ℕ → List ℕ → Type 0
NoBatch {J} K workers real bytes = (other : PlainBatch J) → IsTrue (batch_fits workers real other) → Begins bytes (batch_bytes K other) → ⊥

-- the bytes begin with this head of a frame, and are as long as the frame is
pub record IsHead (workers : ℕ) (bytes : List ℕ) (len first count : ℕ) : Type 0 where
  pub short : len < 2 ^ 32
  pub begins : Begins bytes (head_bytes len first count)
  pub counts : IsTrue (counts_fit workers first count)
  pub whole : 15 + len ≤ length bytes

-- the bytes behind the head, as many as it says
abbrev pub body_of : ℕ → List ℕ → List ℕ
body_of len bytes = take len (drop 15 bytes)

-- After the head stand these records, and then no further one though one is missing, or bytes that are left over.
pub record StopsBehind {J : Type 0} (K : Kind J) (form : Form) (body : List ℕ) (count : ℕ) (read : List (Recorded J)) : Type 0 where
  pub fit : IsTrue (all_fit form read)
  pub begins : Begins body (records_bytes K read)
  pub next : ((length read < count) × NoRecord K form (drop (length (records_bytes K read)) body))
      ⊎ ((length read ≡ count) × (length (records_bytes K read) < length body))

-- why bytes begin with no batch: there is no head, at place 0; or the records after it stop, at this place
abbrev pub IsDamaged : {J : Type 0} → Kind J → ℕ → ℕ → List ℕ → ℕ → FramePart → Type 0
IsDamaged K workers real bytes at Frame = (at ≡ 0) × ((len first count : ℕ) → IsHead workers bytes len first count → ⊥)
IsDamaged {J} K workers real bytes at Record = (len first count : ℕ) × (read : List (Recorded J)) × IsHead workers bytes len first count
    × StopsBehind K (form_of workers real count) (body_of len bytes) count read × (at ≡ 15 + length (records_bytes K read))

-- this holds of the place and the part at fault, unless an allocation failed
abbrev pub OnDamage : BatchFault → (ℕ → FramePart → Type 0) → Type 0
OnDamage (Damaged at what) P = P at what
OnDamage NoMemory P = ⊤

-- the records that were read, if they fill the body
pub record AreRecords {J : Type 0} (K : Kind J) (form : Form) (body : List ℕ) (count : ℕ) (read : List (Recorded J)) : Type 0 where
  pub fit : IsTrue (all_fit form read)
  pub begins : Begins body (records_bytes K read)
  pub number : length read ≡ count
  pub whole : length (records_bytes K read) ≡ length body

-- the records stop at this place of the frame
abbrev pub StopAt : {J : Type 0} → Kind J → Form → List ℕ → ℕ → ℕ → FramePart → Type 0
StopAt K form body count at Frame = ⊥
StopAt {J} K form body count at Record = (read : List (Recorded J)) × StopsBehind K form body count read × (at ≡ 15 + length (records_bytes K read))
