-- What keeps a store, and what its calls do: the store itself, or one beside a log.
use Rattle.std.specs.Prelude.{◌≡◌, ◌↔◌, ◌++◌, ◌∷◌, [], ℕ, List, length, Option, None, Some, Result, Err, OnOk, IfOk, IfErr, MatchResult}
use Rattle.std.specs.Prelude.{if◌then◌else◌}
use Rattle.pfx_disk.specs.Disk.{View, HasFailed, IsHonest}
use Rattle.pfx_fault.specs.declared.fields.Cause.{Cause}
use Rattle.pfx_fault.specs.declared.fields.Cause.TheVariants.{Device, Memory, Log}
use Rattle.pfx_store_format.specs.Format.{format}
use Rattle.pfx_jobs.specs.Kind.{Kind}
use Rattle.pfx_machine.specs.Plain.{Plain}
use Rattle.pfx_record.specs.Records.{Recorded}
use Rattle.pfx_store_image.specs.Store.{Replays}
use Rattle.pfx_segment.specs.Segment.{Takes}
use Rattle.pfx_store_file.specs.Holding.{KeepsAll}
use Rattle.pfx_store_file.specs.Tending.{TakesFrame, append_calls, calls_of, next_step}
use Rattle.pfx_store_file.specs.declared.checkpoint.Tended.{Tended}
use Rattle.pfx_store.specs.Marks.{AreKept, Covers}
use Rattle.pfx_store.specs.Stores.{PlainStore}
use Rattle.pfx_store.specs.Working.{Commits, MovesBy, Tends}
use Rattle.pfx_store.specs.declared.appending.Mark.{Mark}

-- what has failed of a store: its disk, if it is broken
abbrev pub failure_of : {D J : Type 0} → PlainStore D J → Option Cause
failure_of store = if store.file.broken then Some Device else None

module _ {D J T : Type 0} (view : D → View) (old new : PlainStore D J) (was is : Option Cause) (result : Result T Cause) where
  -- A call that takes so many calls of the store's disk. It goes well only where nothing has failed, and else answers what has: the
  -- store's disk, or the log's, and then nothing was done to the store. What had failed before does nothing any more, and answers that
  -- again.
  pub record IsKeeping (calls : ℕ) : Type 0 where
    pub whole : OnOk result ((was ≡ None) × (is ≡ None))
    pub fails : IfErr result (λ cause. is ≡ Some cause)
    pub stays : (cause : Cause) → was ≡ Some cause → (result ≡ Err cause) × (new ≡ old)
    pub device : was ≡ None → result ≡ Err Device → HasFailed (view old.file.disk) (view new.file.disk)
    pub log : result ≡ Err Log → new ≡ old
    pub no_memory : result ≡ Err Memory → ⊥
    pub takes : Takes calls (view old.file.disk) (view new.file.disk) result
    pub honest : IsHonest (view old.file.disk) ↔ IsHonest (view new.file.disk)
    pub parts : new.file.places.sizes ≡ old.file.places.sizes

-- A batch of these records, whose frame is this, is kept: the records move the state on, and the places take the frame; the mark has the
-- last command's number and the disk's clock; each mark is kept, and the new one too; and at every moment what survived before survives,
-- with the frame or without. If the call failed the state and the marks stay.
pub record Keeps {D J : Type 0} (view : D → View) (K : Kind J) (records : List (Recorded J)) (frame : List ℕ) (old new : PlainStore D J)
    (was is : Option Cause) (result : Result Mark Cause) : Type 0 where
  pub call : IsKeeping view old new was is result (append_calls (length frame) old.file.places)
  pub state : MovesBy K records result old.state new.state
  pub place : OnOk result (TakesFrame (length frame) old.file.places new.file.places)
  pub mark : IfOk result (λ mark. (mark.number ≡ new.state.number) × (mark.clock ≡ (view new.file.disk).clock))
  pub marks : IsHonest (view old.file.disk) → (start : Plain J) (all : List (List ℕ)) (marks : List Mark)
      → Covers K start all marks old.file.broken old.state (view old.file.disk)
      → MatchResult result (λ mark. Covers K start (all ++ frame ∷ []) (mark ∷ marks) new.file.broken new.state (view new.file.disk))
      (λ cause. AreKept K start (all ++ frame ∷ []) marks (view new.file.disk))
  pub commits : IsHonest (view old.file.disk) → Commits K old.state frame result (view old.file.disk) (view new.file.disk)

-- A step of the checkpoint in progress is taken, if there is one: the state stays, and so does each mark; and at every moment what
-- survived before survives.
pub record KeepsTending {D J : Type 0} (view : D → View) (K : Kind J) (old new : PlainStore D J) (was is : Option Cause)
    (result : Result Tended Cause)
    : Type 0 where
  pub call : IsKeeping view old new was is result (calls_of (next_step old.file.places))
  pub state : new.state ≡ old.state
  pub tends : Tends old new result
  pub marks : IsHonest (view old.file.disk) → (start : Plain J) (all : List (List ℕ)) (marks : List Mark)
      → Covers K start all marks old.file.broken old.state (view old.file.disk)
      → Covers K start all marks new.file.broken new.state (view new.file.disk)
  pub keeps : IsHonest (view old.file.disk) → (start : Plain J) (all : List (List ℕ)) → Replays (format K) start all old.state
      → KeepsAll (format K) start all all (view old.file.disk) (view new.file.disk)
