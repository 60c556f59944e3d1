-- A store that is opened beside its log.
use Rattle.std.specs.Prelude.{◌≡◌, ◌⊎◌, ℕ, List, length, drop, false, Ok, Err, ⊤}
use Rattle.pfx_disk.specs.Disk.{View, IsHonest, Only}
use Rattle.pfx_disk.specs.declared.device.Disk.{Ghosts as DiskGhosts}
use Rattle.pfx_store_format.specs.Format.{format}
use Rattle.pfx_store_header.specs.Headers.{Header}
use Rattle.pfx_jobs.specs.Kind.{Kind}
use Rattle.pfx_log.specs.Files.{IsLeftBy}
use Rattle.pfx_log.specs.Holding.{Holds}
use Rattle.pfx_log.specs.Logs.{Log, last_number}
use Rattle.pfx_log.specs.declared.file.LogFile.{LogFile}
use Rattle.pfx_machine.specs.Plain.{Plain}
use Rattle.pfx_store_recover.specs.Answers.{IsRefusal}
use Rattle.pfx_store_image.specs.Recovery.{Found, found, recovered}
use Rattle.pfx_store_image.specs.Store.{Replays}
use Rattle.pfx_store.specs.Stores.{PlainStore}
use Rattle.pfx_log_store.specs.Behind.{GoOnBehind, IsGap, all_frames}
use Rattle.pfx_log_store.specs.Covering.{AreCovered, HasBehind, HasKept}
use Rattle.pfx_log_store.specs.Joining.{AreBehind}
use Rattle.pfx_log_store.specs.declared.joining.JoinFault.{JoinFault}
use Rattle.pfx_log_store.specs.declared.joining.JoinFault.TheVariants as fault

-- The log and the file go on together, up to the file's state: the log has kept the first of these frames, and the others are what is
-- read of the file behind its end.
pub record GoOn {J : Type 0} (K : Kind J) (start : Plain J) (all : List (List ℕ)) (log : Log) (bytes : List ℕ) : Type 0 where
  pub kept : ℕ
  pub behind : Plain J
  pub keeps : HasKept K start all kept behind log
  pub reads : HasBehind K (last_number log) (drop kept all) bytes
  pub leads : Replays (format K) behind (drop kept all) reads.file.state

-- At each moment of a call, whatever it answers, each image left of the log with each one left of the file has all of these frames.
abbrev pub StayCovered : {J : Type 0} → Kind J → Plain J → List (List ℕ) → View → View → View → View → Type 0
StayCovered K start all log new_log file new_file = (logged filed : List ℕ) → new_log.since log.clock logged
    → new_file.since file.clock filed → AreCovered K start all (length all) logged filed

-- each image left of the log holds it as it was, or with a block more
abbrev pub HoldsOn : Log → Log → View → View → Type 0
HoldsOn held more old new = (image : List ℕ) → new.since old.clock image → Holds image held ⊎ Holds image more

-- A store that was opened on a disk that held these bytes, of which a stop leaves them alone; and the frames that it has behind this
-- number.
pub record IsOpenBehind {D J : Type 0} (K : Kind J) (view : D → View) (bytes : List ℕ) (last : ℕ) (store : PlainStore D J)
    (frames : List ℕ) : Type 0 where
  pub whole : store.file.broken ≡ false
  pub honest : IsHonest (view store.file.disk)
  pub contents : (view store.file.disk).contents ≡ bytes
  pub only : Only bytes (view store.file.disk)
  pub file : Found Header (Plain J)
  pub found : found (format K) bytes ≡ Ok file
  pub state : file.state ≡ store.state
  pub behind : AreBehind (format K) file.parts.base.number (all_frames file.parts) last frames

-- why no store is opened of these bytes beside a log that ends with this number: a fault of the log comes only where it has to be brought
-- up
abbrev pub IsOpenFault : {J : Type 0} → Kind J → List ℕ → ℕ → JoinFault → Type 0
IsOpenFault K bytes last (fault.File e) = IsRefusal e (λ refusal. recovered (format K) bytes ≡ Err refusal)
IsOpenFault {J = J} K bytes last (fault.LogGap log file) = (log ≡ last)
    × ((f : Found Header (Plain J)) → found (format K) bytes ≡ Ok f → IsGap (format K) f.parts.base.number (all_frames f.parts) last
    × GoOnBehind (format K) f.parts.base.number (all_frames f.parts) last file)
IsOpenFault K bytes last (fault.Log e) = ⊤

-- A fault of the log is an append's, and the log is left as that says: it is broken if its disk failed, now or before, and else as it was.
abbrev pub IsLeftWith : {L : Type 0} {l : DiskGhosts L} → LogFile L l → LogFile L l → JoinFault → Type 0
IsLeftWith old new (fault.Log e) = IsLeftBy old new e
IsLeftWith old new (fault.File e) = ⊤
IsLeftWith old new (fault.LogGap log file) = ⊤
