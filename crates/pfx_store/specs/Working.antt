-- What the calls of a store do.
use Rattle.std.specs.Prelude.{◌≡◌, ◌↔◌, ◌≤◌, ◌<◌, ◌+◌, ◌-◌, ◌++◌, ℕ, List, [], ◌∷◌, length, min, take, slice_index, true, false, Bool}
use Rattle.std.specs.Prelude.{Option}
use Rattle.std.specs.Prelude.{Result, Ok, Some, None, Vec, OnOk, OnErr, IfOk, IfErr, IsErrOf, IsTrue, MatchResult}
use Rattle.std.specs.declared.alloc.Global.{Global}
use Rattle.byteorder.specs.Endian.{little_number}
use Rattle.pfx_checkpoint.specs.Whole.{whole_bytes}
use Rattle.pfx_disk.specs.CallsMade.{HasMade, HasBrokenOff, HasKeptTo}
use Rattle.pfx_disk.specs.Disk.{View, HasFailed, IsHonest, Leaves, Only, Same}
use Rattle.pfx_disk.specs.Stop.{Act, Sync}
use Rattle.pfx_store_create.specs.Attempts.{IsNoneOrMade}
use Rattle.pfx_store_format.specs.Format.{format}
use Rattle.pfx_store_header.specs.Headers.{Header, IsSegmentSize, least_segment}
use Rattle.pfx_jobs.specs.Kind.{Kind}
use Rattle.pfx_machine.specs.Plain.{Plain, IsState, empty}
use Rattle.pfx_machine.specs.Reweighing.{new_set}
use Rattle.pfx_record.specs.Batches.{batch_most}
use Rattle.pfx_record.specs.Numbers.{number_bytes}
use Rattle.pfx_record.specs.Records.{Recorded, reweighed}
use Rattle.pfx_store_recover.specs.declared.faults.OpenFault.{OpenFault}
use Rattle.pfx_store_image.specs.Recovery.{Found, found, recovered}
use Rattle.pfx_store_image.specs.Store.{Replays}
use Rattle.pfx_record_redo.specs.Applying.{applied}
use Rattle.pfx_segment.specs.Segment.{Takes}
use Rattle.pfx_store_image.specs.declared.head.TheConstants.{SEGMENT_HEAD}
use Rattle.pfx_store_file.specs.Calls.{Works}
use Rattle.pfx_store_file.specs.Checkpoints.{in_progress, written}
use Rattle.pfx_store_file.specs.Fitting.{IsTurnable}
use Rattle.pfx_store_file.specs.Sizes.{total_len}
use Rattle.pfx_store_file.specs.Holding.{KeepsAll, Survives}
use Rattle.pfx_store_file.specs.Tending.{IsTurned, StaysPut, TakesFrame, calls_left, calls_of, next_step, pieces, steps_left}
use Rattle.pfx_store_file.specs.declared.progress.Checkpoint.TheVariants.{Ended, Writing}
use Rattle.pfx_store_file.specs.declared.checkpoint.TheConstants.{PIECE}
use Rattle.pfx_store_file.specs.declared.checkpoint.Tended.TheVariants.{Piece}
use Rattle.pfx_store_file.specs.declared.checkpoint.Tended.{Tended}
use Rattle.pfx_store_file.specs.declared.faults.StoreFault.{StoreFault}
use Rattle.pfx_store_file.specs.declared.faults.StoreFault.TheVariants.{Broken, Device, NoRoom}
use Rattle.pfx_store.specs.declared.making.InitFault.{InitFault}
use Rattle.pfx_store.specs.declared.making.InitFault.TheVariants as init
use Rattle.pfx_store.specs.Files.{FileOf, HasFile, recovered_file}
use Rattle.pfx_store.specs.Making.{IsBeforeAnyCall, IsSizeFault, making_calls}
use Rattle.pfx_store.specs.Marks.{Covers}
use Rattle.pfx_store.specs.Standing.{Stands}
use Rattle.pfx_store.specs.Stores.{PlainStore}
use Rattle.pfx_store.specs.declared.appending.Mark.{Mark}
use Rattle.pfx_weights.specs.Sets.{FilledSet}

-- these records are one of new weights, alone, and this is the set that comes into force by it
abbrev pub Renews : {J : Type 0} → Plain J → List (Recorded J) → FilledSet → Type 0
Renews s records set = (m : ℕ) × (weights : List (ℕ × ℕ)) × (records ≡ reweighed m weights ∷ []) × (set ≡ new_set s.ledger.set m weights)

-- the records may come next at a state: rows are of its workers, no task is said to be real, the first number is the next, and each record
-- is right in turn
pub record IsNext {J : Type 0} (K : Kind J) (s : Plain J) (m r n : ℕ) (records : List (Recorded J)) : Type 0 where
  pub workers : m ≡ s.ledger.set.workers
  pub real : r ≡ 0
  pub first : n ≡ s.number + 1
  pub right : (t : Plain J) × (applied K s records ≡ Some t)

-- The record may come next at a state: it is one of new weights, alone, and this is their set; rows are of the state's workers, as many
-- tasks are said to be real as the state has, the first number is the next, and the record is right.
pub record IsRenewal {J : Type 0} (K : Kind J) (s : Plain J) (m r n : ℕ) (records : List (Recorded J)) (set : FilledSet) : Type 0 where
  pub workers : m ≡ s.ledger.set.workers
  pub real : r ≡ s.ledger.set.real
  pub first : n ≡ s.number + 1
  pub right : (t : Plain J) × (applied K s records ≡ Some t)
  pub renews : Renews s records set

-- records come next at a state as those of an append do, or as new weights with their set
abbrev pub IsComing : {J : Type 0} → Kind J → Plain J → ℕ → ℕ → ℕ → List (Recorded J) → Option FilledSet → Type 0
IsComing K s m r n records None = IsNext K s m r n records
IsComing K s m r n records (Some set) = IsRenewal K s m r n records set

-- the records move the state on, unless the call failed, and then it stays
pub record MovesBy {J T E : Type 0} (K : Kind J) (records : List (Recorded J)) (result : Result T E) (old new : Plain J) : Type 0 where
  pub moved : OnOk result (applied K old records ≡ Some new)
  pub same : OnErr result (new ≡ old)

-- The bytes of a state stand where those of another one stood.
pub record IsEncoded {J : Type 0} (K : Kind J) (s : Plain J) (old new : List ℕ) : Type 0 where
  pub spelled : new ≡ whole_bytes K s
  pub long : length new ≡ length old
  pub state : IsState s

-- if the file was turned at this state its bytes stand where those of another one stood; if not, these stand as they did
pub record SpellsTurn {J : Type 0} (K : Kind J) (turned : Bool) (s : Plain J) (old new : List ℕ) : Type 0 where
  pub same : turned ≡ false → new ≡ old
  pub spelled : turned ≡ true → new ≡ whole_bytes K s
  pub long : length new ≡ length old

-- these bytes are a frame, with the closed gate of the next one behind it, and there is no less room for bytes than before
pub record IsSpelled (frame bytes : List ℕ) (old_room new_room : ℕ) : Type 0 where
  pub items : bytes ≡ frame ++ 0 ∷ []
  pub room : old_room ≤ new_room

-- the one state is of the same store as the other: it has as many real tasks, and its segments are as long, with room for the longest batch
-- of its workers
pub record IsOfStore {J : Type 0} (old new : Plain J) : Type 0 where
  pub real : new.ledger.set.real ≡ old.ledger.set.real
  pub segment : new.segment ≡ old.segment
  pub fits : least_segment new.ledger.set.workers ≤ new.segment

-- The records lead from one state to another of the same store, and there is room for the longest frame there.
pub record LeadsOn {J : Type 0} (K : Kind J) (old : Plain J) (records : List (Recorded J)) (new : Plain J) (capacity : ℕ) : Type 0 where
  pub taken : applied K old records ≡ Some new
  pub of : IsOfStore old new
  pub room : batch_most new.ledger.set.workers new.ledger.set.real + 1 ≤ capacity

-- room for a body of so many bytes; where a body is given that is as long it is this one
pub record IsBody (given : Option (Vec ℕ Global)) (len : ℕ) (body : List ℕ) : Type 0 where
  pub long : length body ≡ len
  pub kept : (v : Vec ℕ Global) → given ≡ Some v → length v.items ≡ len → body ≡ v.items

-- At every moment of a call what survived before survives, with this frame or without; and once it succeeded each image has it.
pub record Commits {J T E : Type 0} (K : Kind J) (s : Plain J) (frame : List ℕ) (result : Result T E) (old new : View) : Type 0 where
  pub keeps : (start : Plain J) → (all : List (List ℕ)) → Replays (format K) start all s
      → KeepsAll (format K) start all (all ++ frame ∷ []) old new
  pub acknowledged : (start : Plain J) → (all : List (List ℕ)) → Replays (format K) start all s
      → OnOk result ((image : List ℕ) → new.since new.clock image → Survives (format K) start (all ++ frame ∷ []) (length all + 1) image)

module _ {D J T : Type 0} (view : D → View) (old new : PlainStore D J) (result : Result T StoreFault) where
  -- A call of a store that takes so many calls of the disk. A broken store is refused and left as it was; a fault of the device
  -- means that the disk failed, and breaks the store. An honest disk stays one, and the parts of the file lie where they lay.
  pub record IsCall (calls : ℕ) : Type 0 where
    pub works : Works (view old.file.disk) (view new.file.disk) old.file.broken new.file.broken result
    pub takes : Takes calls (view old.file.disk) (view new.file.disk) result
    pub honest : IsHonest (view old.file.disk) ↔ IsHonest (view new.file.disk)
    pub roomy : ¬ IsErrOf result NoRoom
    pub broken : IsErrOf result Broken → new ≡ old
    pub parts : new.file.places.sizes ≡ old.file.places.sizes

  -- The calls of the disk, one after the other, for each file that the store may have: when it went well all of them, and the file
  -- after them; some of them up to one that failed, where the device did; and no stop in between left anything else.
  pub record Makes (K : Kind J) (acts : FileOf J → List Act) (next : FileOf J → FileOf J) (went_well : Type 0 → Type 0) : Type 0 where
    pub made : (f : FileOf J) → HasFile K f old.file.places old.spelled → IsHonest (view old.file.disk)
        → went_well (HasMade (acts f) (view old.file.disk) (view new.file.disk))
    pub broken_off : (f : FileOf J) → HasFile K f old.file.places old.spelled → IsHonest (view old.file.disk)
        → IsErrOf result Device → HasBrokenOff (acts f) (view old.file.disk) (view new.file.disk)
    pub between : (f : FileOf J) → HasFile K f old.file.places old.spelled → IsHonest (view old.file.disk)
        → HasKeptTo (acts f) (view old.file.disk) (view new.file.disk)
    pub file : (f : FileOf J) → HasFile K f old.file.places old.spelled → IsHonest (view old.file.disk)
        → went_well (HasFile K (next f) new.file.places new.spelled)

-- A batch whose frame has n bytes was taken: the records move the state on, unless the call failed; the places take the frame; and the
-- mark has the last command's number and the disk's clock at the return.
pub record TakesBatch {D J : Type 0} (view : D → View) (K : Kind J) (records : List (Recorded J)) (n : ℕ) (old new : PlainStore D J)
    (result : Result Mark StoreFault) : Type 0 where
  pub state : MovesBy K records result old.state new.state
  pub place : OnOk result (TakesFrame n old.file.places new.file.places)
  pub mark : IfOk result (λ mark. (mark.number ≡ new.state.number) × (mark.clock ≡ (view new.file.disk).clock))

-- Why no store was made of a set for m workers: what each fault means, and what it leaves of the disk.
pub record IsUnmade {D : Type 0} (view : D → View) (m segment : ℕ) (disk : D) (e : InitFault × D) : Type 0 where
  pub size : IsSizeFault m segment e.0
  pub device : e.0 ≡ init.Device → HasFailed (view disk) (view e.1)
  pub not_empty : IsHonest (view disk) → e.0 ≡ init.NotEmpty → 0 < length (view disk).contents
  pub one_call : e.0 ≡ init.NotEmpty → (view e.1).clock ≡ (view disk).clock + 1
  pub unasked : IsBeforeAnyCall e.0 → e.1 ≡ disk

-- The bytes behind the gate of a segment whose first command comes behind this number: the next number, and a closed gate.
pub record BeginsBehind (last : ℕ) (start : List ℕ) : Type 0 where
  pub long : length start ≡ SEGMENT_HEAD
  pub number : little_number 8 (take 8 start) ≡ last + 1
  pub closed : slice_index start 8 ≡ 0
  pub bytes : start ≡ number_bytes 8 (last + 1) ++ 0 ∷ []

-- So many calls of the disk made the store, the last of them a sync, after which a stop leaves what is read; no answer took more; an honest
-- disk is one before as after.
pub record IsMaking {D J : Type 0} (view : D → View) (calls : ℕ) (disk : D) (result : Result (PlainStore D J) (InitFault × D))
    : Type 0 where
  pub calls_made : IfOk result (λ store. (view store.file.disk).clock ≡ (view disk).clock + 6
      + pieces (total_len store.file.places.sizes - 1))
  pub honest : MatchResult result (λ store. IsHonest (view disk) ↔ IsHonest (view store.file.disk))
      (λ e. IsHonest (view disk) ↔ IsHonest (view e.1))
  pub takes : MatchResult result (λ store. Takes calls (view disk) (view store.file.disk) result)
      (λ e. Takes calls (view disk) (view e.1) result)
  pub only : IsHonest (view disk) → IfOk result (λ store. Only (view store.file.disk).contents (view store.file.disk))

-- the new store of a state, with segments of its length, within the limits; it isn't broken, and no checkpoint is in progress
pub record IsBegun {D J : Type 0} (s : Plain J) (store : PlainStore D J) : Type 0 where
  pub size : IsSegmentSize s.ledger.set.workers s.segment
  pub segment_len : store.file.places.sizes.segment ≡ s.segment
  pub state : store.state ≡ s
  pub whole : store.file.broken ≡ false
  pub none_left : steps_left store.file.places ≡ 0

-- the new store of a set at its empty state
abbrev pub IsNew : {D J : Type 0} → FilledSet → ℕ → PlainStore D J → Type 0
IsNew set segment store = IsBegun (empty set segment) store

-- What comes of making a store that begins at a state: what each fault means; it is made on an empty disk alone, and one that holds bytes
-- is left as it was; how many calls it takes; the new store, which stands for the state; and that each image since the disk was empty is no
-- store's, or the state's.
pub record MakesStore {D J : Type 0} (view : D → View) (K : Kind J) (s : Plain J) (disk : D)
    (result : Result (PlainStore D J) (InitFault × D))
    : Type 0 where
  pub unmade : IfErr result (λ e. IsUnmade view s.ledger.set.workers s.segment disk e)
  pub vacant : IsHonest (view disk) → MatchResult result (λ _. (view disk).contents ≡ [])
      (λ e. 0 < length (view disk).contents → Leaves Same (view disk) (view e.1))
  pub calls : IsMaking view (making_calls s.ledger.set s.segment) disk result
  pub made : IfOk result (λ store. IsBegun s store)
  pub stands : IsHonest (view disk) → IfOk result (λ store. Stands K store.file.places store.state store.spelled (view store.file.disk))
  pub recovers : IsHonest (view disk) → MatchResult result
      (λ store. IsNoneOrMade (format K) s (view disk) (view store.file.disk)) (λ e. IsNoneOrMade (format K) s (view disk) (view e.1))

-- From now on each image is recovered to the state: a mark stands for it.
pub record IsDurable {J : Type 0} (K : Kind J) (broken : Bool) (s : Plain J) (disk : View) : Type 0 where
  pub images : (image : List ℕ) → disk.since disk.clock image → recovered (format K) image ≡ Ok s
  pub marks : Covers K s [] (record { number = s.number; clock = disk.clock } ∷ []) broken s disk

-- The one call that a later stop could tell is a sync: it was made, or it failed, and no stop in between left anything else. Once it
-- was made a stop leaves what was read, and the file is the one that is found there, with its checkpoint to be begun anew.
pub record Opens {D J : Type 0} (view : D → View) (K : Kind J) (disk : D) (result : Result (PlainStore D J) (OpenFault × D)) : Type 0 where
  pub made : IfOk result (λ store. HasMade (Sync ∷ []) (view disk) (view store.file.disk))
  pub broken_off : IfErr result (λ e. HasBrokenOff (Sync ∷ []) (view disk) (view e.1))
  pub between : MatchResult result (λ store. HasKeptTo (Sync ∷ []) (view disk) (view store.file.disk))
      (λ e. HasKeptTo (Sync ∷ []) (view disk) (view e.1))
  pub only : IfOk result (λ store. Only (view disk).contents (view store.file.disk))
  pub file : IfOk result (λ store. (f : FileOf J)
      × (recovered_file K (view disk).contents ≡ Some (store.state, f)) × HasFile K f store.file.places store.spelled)

-- a step of the checkpoint in progress was taken, the one that comes next; frames go where they went
pub record Tends {D J E : Type 0} (old new : PlainStore D J) (result : Result Tended E) : Type 0 where
  pub step : IfOk result (λ tended. tended ≡ next_step old.file.places)
  pub stays : StaysPut old.file.places new.file.places
  pub nothing : old.file.places.checkpoint ≡ Ended → (new.file ≡ old.file) × (new.spelled ≡ old.spelled)
  pub piece : result ≡ Ok Piece → new.file.places.checkpoint
      ≡ Writing (min old.file.places.sizes.body (written old.file.places.checkpoint + PIECE))
  pub nearer : in_progress old.file.places.checkpoint ≡ true → OnOk result (steps_left old.file.places ≡ 1 + steps_left new.file.places)
  pub fewer : OnOk result (calls_left old.file.places ≡ calls_of (next_step old.file.places) + calls_left new.file.places)

-- the file was turned, exactly if that is lawful; else nothing was done
pub record Turns {D J : Type 0} (old new : PlainStore D J) (result : Result Bool StoreFault) : Type 0 where
  pub lawful : IfOk result (λ turned. IsTrue turned ↔ IsTurnable old.file.places)
  pub refused : result ≡ Ok false → (new.file ≡ old.file) × (new.spelled ≡ old.spelled)
  pub turned : result ≡ Ok true → IsTurned new.file.places

-- What was found in these bytes: the state that recovery gives, whether a checkpoint is in progress, and the file; the store stands for it.
pub record Finds {D J : Type 0} (view : D → View) (K : Kind J) (bytes : List ℕ) (store : PlainStore D J) : Type 0 where
  pub recovers : recovered (format K) bytes ≡ Ok store.state
  pub turned : (f : Found Header (Plain J)) → found (format K) bytes ≡ Ok f → in_progress store.file.places.checkpoint ≡ f.parts.turned
  pub stands : Stands K store.file.places store.state store.spelled (view store.file.disk)
  pub file : (f : FileOf J) × (recovered_file K bytes ≡ Some (store.state, f)) × HasFile K f store.file.places store.spelled

-- The state stays. A store that stands for it goes on so once the call succeeds; and at every moment of it, whatever it answers, what
-- survived before survives.
pub record StandsOn {D J T : Type 0} (view : D → View) (K : Kind J) (old new : PlainStore D J) (result : Result T StoreFault) : Type 0 where
  pub state : new.state ≡ old.state
  pub goes_on : Stands K old.file.places old.state old.spelled (view old.file.disk)
      → OnOk result (Stands K new.file.places new.state new.spelled (view new.file.disk))
  pub keeps : Stands K old.file.places old.state old.spelled (view old.file.disk)
      → (start : Plain J) → (all : List (List ℕ)) → Replays (format K) start all old.state
      → KeepsAll (format K) start all all (view old.file.disk) (view new.file.disk)

-- A store that stands for its state goes on so after the frame once the call succeeded; and at every moment of it what survived before
-- survives, with the frame or without.
pub record StandsAfter {D J T : Type 0} (view : D → View) (K : Kind J) (frame : List ℕ) (old new : PlainStore D J)
    (result : Result T StoreFault) : Type 0 where
  pub goes_on : Stands K old.file.places old.state old.spelled (view old.file.disk)
      → OnOk result (Stands K new.file.places new.state new.spelled (view new.file.disk))
  pub commits : Stands K old.file.places old.state old.spelled (view old.file.disk)
      → Commits K old.state frame result (view old.file.disk) (view new.file.disk)
