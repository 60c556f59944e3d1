-- What comes of appending a batch that was taken.
use Rattle.std.specs.Prelude.{◌≡◌, ◌≤◌, ◌+◌, ◌++◌, ℕ, List, [], ◌∷◌, map, Option, None, Some, false}
use Rattle.pfx_disk.specs.Disk.{View, HasFailed, IsHonest}
use Rattle.pfx_record_redo.specs.Applying.{applied}
use Rattle.pfx_fault.specs.declared.fields.Cause.{Cause}
use Rattle.pfx_fault.specs.declared.fields.Cause.TheVariants.{Device, Memory, Log}
use Rattle.pfx_jobs.specs.Kind.{Kind}
use Rattle.pfx_machine.specs.Plain.{Plain}
use Rattle.pfx_record.specs.Batches.{batch_bytes, batch_of}
use Rattle.pfx_record.specs.Records.{plain}
use Rattle.pfx_record.specs.declared.batch.Batch.{Batch}
use Rattle.pfx_store.specs.Marks.{AreKept, Covers}
use Rattle.pfx_store.specs.Stores.{PlainStore}
use Rattle.pfx_store.specs.declared.appending.Mark.{Mark}
use Rattle.pfx_book.specs.Batching.{real_for}

-- the batch comes next at the state: it has rows of the workers there, says of no task that it is real unless it is of new weights, begins
-- with the next number, and leads on
abbrev pub ComesNext : {J : Type 0} → Kind J → Plain J → Batch J → Type 0
ComesNext {J = J} K s batch = (batch.workers ≡ s.ledger.set.workers) × (batch.real ≡ real_for s.ledger.set.real (map plain batch.records.items))
    × (batch.first ≡ s.number + 1) × ((t : Plain J) × (applied K s (map plain batch.records.items) ≡ Some t))

-- these frames, and the batch's behind them
abbrev pub with_frame : {J : Type 0} → Kind J → Batch J → List (List ℕ) → List (List ℕ)
with_frame K batch all = all ++ batch_bytes K (batch_of batch.first batch.records.items) ∷ []

module _ {D J : Type 0} (view : D → View) (K : Kind J) (batch : Batch J) where
  -- The batch is appended, with this mark: nothing has failed, and the store is whole, has the state to which the records lead and whose number the
  -- mark has, and keeps each mark, this one too.
  pub record IsAppended (mark : Mark) (old new : PlainStore D J) (failed : Option Cause) : Type 0 where
    pub goes_on : failed ≡ None
    pub moved : applied K old.state (map plain batch.records.items) ≡ Some new.state
    pub whole : new.file.broken ≡ false
    pub number : mark.number ≡ new.state.number
    pub no_fewer : (view old.file.disk).failures ≤ (view new.file.disk).failures
    pub honest : IsHonest (view new.file.disk) → IsHonest (view old.file.disk)
    pub marks : IsHonest (view old.file.disk) → (start : Plain J) (all : List (List ℕ)) (marks : List Mark)
        → Covers K start all marks old.file.broken old.state (view old.file.disk)
        → Covers K start (with_frame K batch all) (mark ∷ marks) new.file.broken new.state (view new.file.disk)

  -- The batch isn't known to be appended, for this cause: the store keeps its state and each mark; if memory was refused or the log has failed it
  -- is as it was, and else the disk has failed.
  pub record IsMissed (cause : Cause) (old new : PlainStore D J) (failed : Option Cause) : Type 0 where
    pub same : new.state ≡ old.state
    pub device : cause ≡ Device → HasFailed (view old.file.disk) (view new.file.disk)
    pub memory : cause ≡ Memory → new ≡ old
    pub log : cause ≡ Log → (new ≡ old) × (failed ≡ Some Log)
    pub honest : IsHonest (view new.file.disk) → IsHonest (view old.file.disk)
    pub marks : IsHonest (view old.file.disk) → (start : Plain J) (all : List (List ℕ)) (marks : List Mark)
        → Covers K start all marks old.file.broken old.state (view old.file.disk)
        → AreKept K start (with_frame K batch all) marks (view new.file.disk)
