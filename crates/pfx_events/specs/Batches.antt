-- Batches, one behind the other, and a store that stands.
use Rattle.std.specs.Prelude.{ℕ, List}
use Rattle.pfx_events_acts.specs.Files.{IsFile, IsWhole}
use Rattle.pfx_disk.specs.Disk.{View}
use Rattle.pfx_store_format.specs.Format.{format}
use Rattle.pfx_jobs.specs.Kind.{Kind}
use Rattle.pfx_machine.specs.Plain.{Plain}
use Rattle.pfx_store_file.specs.declared.places.Places.{Places}
use Rattle.pfx_store.specs.Files.{FileOf, HasFile, spelled}
-- batches are groups of commands: their frames, all their commands, and what survives of them
pub use Rattle.pfx_store.specs.Groups.{AreSmall, frames_of, joined}
pub use Rattle.pfx_store.specs.Groups.{Survives as KeepsBatches}

-- a store with these places and this body of a checkpoint on this disk has this file, at this state: so the events see it
pub record IsSeen {J : Type 0} (K : Kind J) (places : Places) (s : Plain J) (body : List ℕ) (f : FileOf J) (disk : View) : Type 0 where
  pub has : HasFile K f places body
  pub whole : IsWhole (format K) (spelled K f) s f disk.contents
  pub each : (image : List ℕ) → disk.now image → IsFile (format K) s f image
