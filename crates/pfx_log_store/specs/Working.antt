-- A store beside its log, and what its calls do.
use Rattle.std.specs.Prelude.{◌≡◌, ◌≤◌, ◌<◌, ◌⊎◌, ◌+◌, ◌++◌, ℕ, List, [], length, drop, false, Bool, if◌then◌else◌, Option, None, Some}
use Rattle.std.specs.Prelude.{Result, OnOk, OnErr, Ok}
use Rattle.pfx_events_base.specs.Bases.{IsOn, turn_number}
use Rattle.pfx_disk.specs.Disk.{View, IsHonest, Only}
use Rattle.pfx_disk.specs.declared.device.Disk.{Ghosts as DiskGhosts}
use Rattle.pfx_fault.specs.declared.fields.Cause.{Cause}
use Rattle.pfx_fault.specs.declared.fields.Cause.TheVariants as cause
use Rattle.pfx_store_format.specs.Format.{format}
use Rattle.pfx_store_header.specs.Headers.{Header}
use Rattle.pfx_jobs.specs.Kind.{Kind}
use Rattle.pfx_jobs.specs.declared.job.Job.{Ghosts as JobGhosts}
use Rattle.pfx_log.specs.Files.{IsOpen}
use Rattle.pfx_log.specs.Logs.{Log, last_number}
use Rattle.pfx_log.specs.declared.file.LogFile.{LogFile}
use Rattle.pfx_machine.specs.Batches.{IsBatchable}
use Rattle.pfx_machine.specs.Plain.{Plain}
use Rattle.pfx_machine.specs.Sessions.{IsAcceptable}
use Rattle.pfx_machine.specs.declared.command.Command.{Command}
use Rattle.pfx_record.specs.Batches.{PlainBatch}
use Rattle.pfx_store_image.specs.Recovery.{Found, found}
use Rattle.pfx_store_image.specs.Store.{Replays}
use Rattle.pfx_record_redo.specs.Recording.{records_of}
use Rattle.pfx_store.specs.Files.{FileOf, HasFile, spelled}
use Rattle.pfx_store.specs.Stores.{PlainStore}
use Rattle.pfx_store_file.specs.Fitting.{HasRoom}
use Rattle.pfx_log_store.specs.Behind.{StandBehind, all_frames}
use Rattle.pfx_log_store.specs.Covering.{AreCovered, HasBehind, HasKept, in_a_row}
use Rattle.pfx_log_store.specs.declared.beside.LoggedStore.{LoggedStore}

-- a batch of these commands, which a state accepts one after the other: 1 to 16, and new weights alone
pub record IsBatchOf {J : Type 0} (K : Kind J) (s : Plain J) (H : List (Command J)) (batch : PlainBatch J) : Type 0 where
  pub some : 0 < length H
  pub few : length H ≤ 16
  pub may : IsBatchable H
  pub accepted : IsAcceptable K s H
  pub are : batch ≡ record { first = s.number + 1; records = records_of K s H }

-- what has failed: the store's disk, or else the log's, or the log couldn't be brought up
abbrev pub failure_by : Bool → Bool → Bool → Option Cause
failure_by broken log_broken stopped = if broken then Some cause.Device
    else (if log_broken then Some cause.Log else (if stopped then Some cause.Log else None))

-- what has failed of a store beside its log
abbrev pub failure_beside : {D L J : Type 0} {d : DiskGhosts D} {l : DiskGhosts L} {k : JobGhosts J} → LoggedStore D L J d l k
    → Option Cause
failure_beside beside = failure_by beside.store.file.broken beside.log.broken beside.stopped

-- all frames up to the last are in the log
pub record IsUpToDate {D L J : Type 0} {d : DiskGhosts D} {l : DiskGhosts L} {k : JobGhosts J} (beside : LoggedStore D L J d l k)
    : Type 0 where
  pub copied : beside.copy.items ≡ []
  pub number : beside.store.state.number ≤ beside.log.place.last

-- a frame of n bytes has room, or the log is up to date
abbrev pub IsReady : {D L J : Type 0} {d : DiskGhosts D} {l : DiskGhosts L} {k : JobGhosts J} → ℕ → LoggedStore D L J d l k → Type 0
IsReady n beside = HasRoom n beside.store.file.places ⊎ IsUpToDate beside

-- the frame comes behind those that are copied, unless the call failed, and then they stay
pub record Copies {T E : Type 0} (frame old new : List ℕ) (result : Result T E) : Type 0 where
  pub copied : OnOk result (new ≡ old ++ frame)
  pub same : OnErr result (new ≡ old)

module _ {J : Type 0} (K : Kind J) (start : Plain J) (all : List (List ℕ)) (log : Log) where
  -- The log has kept the first of these frames, so many bytes are the others, and these lead on to this state.
  pub record IsKeptUpTo (copy : List ℕ) (s : Plain J) : Type 0 where
    pub kept : ℕ
    pub behind : Plain J
    pub keeps : HasKept K start all kept behind log
    pub copied : copy ≡ in_a_row (drop kept all)
    pub leads : Replays (format K) behind (drop kept all) s

  -- A store and a log that may go on together: a stop leaves what a read of the store's disk gives; the log is open, and has kept the
  -- frames up to the store's state, but for these bytes, the frames that are read of the store's disk behind the log's end; and the last
  -- turn of the file comes no later.
  pub record CanJoin {D L : Type 0} {l : DiskGhosts L} (view : D → View) (store : PlainStore D J) (file : LogFile L l) (copy : List ℕ)
      : Type 0 where
    pub whole : store.file.broken ≡ false
    pub honest : IsHonest (view store.file.disk)
    pub only : Only (view store.file.disk).contents (view store.file.disk)
    pub opened : IsOpen log file
    pub kept : IsKeptUpTo copy store.state
    pub reads : HasBehind K (last_number log) (drop kept.kept all) (view store.file.disk).contents
    pub turned : (f : Found Header (Plain J)) → found (format K) (view store.file.disk).contents ≡ Ok f
        → f.parts.middle.number ≤ last_number log

  -- The store is whole, on an honest disk that its file is on; the log is open, and has kept the frames up to the store's state, but for
  -- those that are copied, which are what the file has behind the log's end; and the last turn of the file comes no later.
  pub record IsLogged {D L : Type 0} {d : DiskGhosts D} {l : DiskGhosts L} {k : JobGhosts J} (beside : LoggedStore D L J d l k)
      : Type 0 where
    pub whole : beside.store.file.broken ≡ false
    pub honest : IsHonest (d.view beside.store.file.disk)
    pub file : FileOf J
    pub has : HasFile K file beside.store.file.places beside.store.spelled
    pub on : IsOn (format K) file (spelled K file) beside.store.state (d.view beside.store.file.disk)
    pub turned : turn_number (format K) file ≤ last_number log
    pub opened : IsOpen log beside.log
    pub kept : IsKeptUpTo beside.copy.items beside.store.state
    pub reads : StandBehind (format K) file.parts.base.number (all_frames file.parts) (last_number log) (drop kept.kept all)

-- At each moment of a call, whatever it answers, each image that a stop may leave of the log, with each one that it may leave of the
-- file, has these frames, so many of them at least.
abbrev pub Covers : {D L J : Type 0} {d : DiskGhosts D} {l : DiskGhosts L} {k : JobGhosts J} → Kind J → Plain J → List (List ℕ) → ℕ
    → LoggedStore D L J d l k → LoggedStore D L J d l k → Type 0
Covers {d = d} {l = l} K start all n old new = (logged filed : List ℕ) → (l.view new.log.disk).since (l.view old.log.disk).clock logged
    → (d.view new.store.file.disk).since (d.view old.store.file.disk).clock filed → AreCovered K start all n logged filed

-- Once a call succeeded the store is logged with these frames, and at each moment of it so many of them were covered.
pub record KeepsLogged {D L J T E : Type 0} {d : DiskGhosts D} {l : DiskGhosts L} {k : JobGhosts J} (K : Kind J) (start : Plain J)
    (all : List (List ℕ)) (n : ℕ)
    (old new : LoggedStore D L J d l k) (result : Result T E) : Type 0 where
  pub logged : OnOk result ((log : Log) × IsLogged K start all log new)
  pub covered : Covers K start all n old new

-- A call that brings the log up, on its disk alone, and then keeps a frame, on the store's disk alone: at each moment of the one, and of
-- the other, all these frames were covered. If it isn't brought up nothing more is done.
pub record KeepsBoth {D L J T E : Type 0} {d : DiskGhosts D} {l : DiskGhosts L} {k : JobGhosts J} (K : Kind J) (start : Plain J)
    (all more : List (List ℕ))
    (old new : LoggedStore D L J d l k) (result : Result T E) : Type 0 where
  pub middle : LoggedStore D L J d l k
  pub log_alone : middle.store ≡ old.store
  pub brought_up : Covers K start all (length all) old middle
  pub kept : (OnOk result ⊥ × (new ≡ middle)) ⊎ ((new.log ≡ middle.log) × KeepsLogged K start more (length all) middle new result)
