-- What the calls of a store's file do.
use Rattle.std.specs.Prelude.{◌≡◌, ◌↔◌, ◌≤◌, ◌<◌, ◌+◌, ◌++◌, ◌∷◌, [], ℕ, List, length, min, true, false}
use Rattle.std.specs.Prelude.{Result, Ok, OnOk, OnErr, IfOk, IsErrOf}
use Rattle.pfx_disk.specs.CallsMade.{HasMade, HasBrokenOff, HasKeptTo}
use Rattle.pfx_disk.specs.Disk.{IsHonest}
use Rattle.pfx_disk.specs.Stop.{Act}
use Rattle.pfx_disk.specs.declared.device.Disk.{Ghosts}
use Rattle.pfx_store_image.specs.Codec.{Codec}
use Rattle.pfx_store_image.specs.Store.{Parts, Replays}
use Rattle.pfx_segment.specs.Segment.{Takes}
use Rattle.pfx_store_file.specs.Calls.{Works}
use Rattle.pfx_store_file.specs.Checkpoints.{in_progress, written}
use Rattle.pfx_store_file.specs.Holding.{Holds, KeepsAll, Survives}
use Rattle.pfx_store_file.specs.Tending.{StaysPut, calls_left, calls_of, next_step, steps_left}
use Rattle.pfx_store_file.specs.declared.checkpoint.TheConstants.{PIECE}
use Rattle.pfx_store_file.specs.declared.checkpoint.Tended.TheVariants.{Piece}
use Rattle.pfx_store_file.specs.declared.checkpoint.Tended.{Tended}
use Rattle.pfx_store_file.specs.declared.faults.StoreFault.{StoreFault}
use Rattle.pfx_store_file.specs.declared.faults.StoreFault.TheVariants.{Broken, Device, NoRoom}
use Rattle.pfx_store_file.specs.declared.file.StoreFile.{StoreFile}
use Rattle.pfx_store_file.specs.declared.places.Places.{Places}
use Rattle.pfx_store_file.specs.declared.progress.Checkpoint.TheVariants.{Ended, Writing}

-- n bytes more of the checkpoint in progress may be written: so many of it are, the n aren't none, and the spelling has them
pub record IsPiece (done n : ℕ) (spelling : List ℕ) (places : Places) : Type 0 where
  pub some : 0 < n
  pub fits : done + n ≤ places.sizes.body
  pub long : length spelling ≡ places.sizes.body
  pub writing : places.checkpoint ≡ Writing done

-- the places are so once the call succeeded, and as they were after a fault
pub record MovesTo {T : Type 0} (result : Result T StoreFault) (old new : Places) (after : Type 0) : Type 0 where
  pub moved : OnOk result after
  pub same : OnErr result (new ≡ old)

-- a step of the checkpoint in progress: frames go where they went, and the places are so once it succeeded, and as they were after a fault
pub record IsStep {T : Type 0} (result : Result T StoreFault) (old new : Places) (after : Type 0) : Type 0 where
  pub stays : StaysPut old new
  pub moved : OnOk result after
  pub same : OnErr result (new ≡ old)

module _ {D T : Type 0} {g : Ghosts D} (old new : StoreFile D g) (result : Result T StoreFault) where
  -- A call of a store's file that takes so many calls of the disk. A broken file is refused and left as it was; a fault of the device
  -- means that the disk failed, and breaks the file; a lack of room is no answer. An honest disk stays one, and the parts of the file
  -- lie where they lay.
  pub record IsCall (calls : ℕ) : Type 0 where
    pub works : Works (g.view old.disk) (g.view new.disk) old.broken new.broken result
    pub takes : Takes calls (g.view old.disk) (g.view new.disk) result
    pub honest : IsHonest (g.view old.disk) ↔ IsHonest (g.view new.disk)
    pub roomy : ¬ IsErrOf result NoRoom
    pub broken : IsErrOf result Broken → new ≡ old
    pub parts : new.places.sizes ≡ old.places.sizes

  -- An append of n bytes, which takes four calls of the disk. It is such a call, but for a lack of room: that is the answer exactly if the
  -- file isn't broken and has no room for them, and then nothing was done.
  pub record IsAppend (n : ℕ) : Type 0 where
    pub works : Works (g.view old.disk) (g.view new.disk) old.broken new.broken result
    pub takes : Takes 4 (g.view old.disk) (g.view new.disk) result
    pub honest : IsHonest (g.view old.disk) ↔ IsHonest (g.view new.disk)
    pub no_room : IsErrOf result NoRoom ↔ (old.broken ≡ false) × (old.places.end ≤ old.places.gate + n)
    pub refused : IsErrOf result NoRoom → new ≡ old
    pub broken : IsErrOf result Broken → new ≡ old
    pub parts : new.places.sizes ≡ old.places.sizes

  -- These calls of the disk, one after the other: all of them once it succeeded; some of them up to one that failed, if the device did;
  -- and no stop in between left anything else.
  pub record Makes (acts : List Act) : Type 0 where
    pub made : OnOk result (HasMade acts (g.view old.disk) (g.view new.disk))
    pub broken_off : IsErrOf result Device → HasBrokenOff acts (g.view old.disk) (g.view new.disk)
    pub between : HasKeptTo acts (g.view old.disk) (g.view new.disk)

  module _ {H S : Type 0} (K : Codec H S) (h : H) (p : Parts S) where
    -- Once the call succeeded the store holds with these parts, at the same state; at every moment what survived before survives.
    pub record Keeps (s : S) (spelling : List ℕ) : Type 0 where
      pub holds : OnOk result (Holds K h new.places p s spelling (g.view new.disk))
      pub keeps : (start : S) → (all : List (List ℕ)) → Replays K start all s → KeepsAll K start all all (g.view old.disk) (g.view new.disk)

    -- A frame leads from one state to another. Once the call succeeded the store holds with these parts, at the other state, and each
    -- image has the frame; at every moment what survived before survives, with the frame or without.
    pub record Commits (s : S) (frame : List ℕ) (t : S) (spelling : List ℕ) : Type 0 where
      pub holds : OnOk result (Holds K h new.places p t spelling (g.view new.disk))
      pub keeps : (start : S) → (all : List (List ℕ)) → Replays K start all s
          → KeepsAll K start all (all ++ frame ∷ []) (g.view old.disk) (g.view new.disk)
      pub acknowledged : (start : S) → (all : List (List ℕ)) → Replays K start all s
          → OnOk result ((image : List ℕ) → (g.view new.disk).since (g.view new.disk).clock image
          → Survives K start (all ++ frame ∷ []) (length all + 1) image)

  -- no checkpoint is in progress any more, once the call succeeded; if none was, nothing was done, and frames go where they went
  pub record Ends : Type 0 where
    pub nothing : old.places.checkpoint ≡ Ended → new ≡ old
    pub ended : OnOk result (new.places.checkpoint ≡ Ended)
    pub stays : StaysPut old.places new.places

-- A step of the checkpoint in progress was taken, the one that comes next, and one fewer is to come; after a fault the places are as they
-- were. Frames go where they went, and if none is in progress nothing was done.
pub record Tends {D : Type 0} {g : Ghosts D} (old new : StoreFile D g) (result : Result Tended StoreFault) : Type 0 where
  pub step : IfOk result (λ tended. tended ≡ next_step old.places)
  pub stays : StaysPut old.places new.places
  pub same : OnErr result (new.places ≡ old.places)
  pub nothing : old.places.checkpoint ≡ Ended → new ≡ old
  pub piece : result ≡ Ok Piece → new.places.checkpoint ≡ Writing (min old.places.sizes.body (written old.places.checkpoint + PIECE))
  pub nearer : in_progress old.places.checkpoint ≡ true → OnOk result (steps_left old.places ≡ 1 + steps_left new.places)
  pub fewer : OnOk result (calls_left old.places ≡ calls_of (next_step old.places) + calls_left new.places)
