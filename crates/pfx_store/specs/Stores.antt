-- A store as contracts see it.
use Rattle.std.specs.Prelude.{ℕ, List, Bool, Result, Ok, Err}
use Rattle.pfx_disk.specs.declared.device.Disk.{Ghosts as DiskGhosts}
use Rattle.pfx_jobs.specs.declared.job.Job.{Ghosts as JobGhosts}
use Rattle.pfx_machine.specs.Plain.{Plain}
use Rattle.pfx_store_file.specs.declared.places.Places.{Places}
use Rattle.pfx_store.specs.declared.journal.Journal.{Journal}

-- its file: the disk, where the parts lie, and whether a call of the disk has failed
pub record PlainFile (D : Type 0) : Type 0 where
  pub disk : D
  pub places : Places
  pub broken : Bool

-- the file, the state, and the body of the checkpoint area that the checkpoint in progress writes
pub record PlainStore (D J : Type 0) : Type 0 where
  pub file : PlainFile D
  pub state : Plain J
  pub spelled : List ℕ

-- the store that a journal is
abbrev pub stored : {D J : Type 0} {d : DiskGhosts D} {k : JobGhosts J} → Journal D J d k → PlainStore D J
stored j = record { file = record { disk = j.file.disk; places = j.file.places; broken = j.file.broken }; state = j.state; spelled = j.spelled.items }

-- what was made, as a store
abbrev pub as_store : {D J E : Type 0} {d : DiskGhosts D} {k : JobGhosts J} → Result (Journal D J d k) E → Result (PlainStore D J) E
as_store (Ok j) = Ok (stored j)
as_store (Err e) = Err e
