-- A store on its disk, and a world whose store it is.
use Rattle.std.specs.Prelude.{◌≡◌, ℕ, ◌+◌, List, [], ◌∷◌, ◌++◌, true, false}
use Rattle.pfx_disk.specs.CallsMade.{IsAfter}
use Rattle.pfx_disk.specs.Disk.{View, IsHonest}
use Rattle.pfx_disk.specs.Stop.{Act}
use Rattle.pfx_record_redo.specs.Recording.{records_of}
use Rattle.pfx_jobs.specs.Kind.{Kind}
use Rattle.pfx_store.specs.Files.{HasFile}
use Rattle.pfx_store.specs.Stores.{PlainStore}
use Rattle.pfx_machine.specs.Plain.{Plain}
use Rattle.pfx_machine.specs.declared.command.Command.{Command}
use Rattle.pfx_record.specs.Batches.{PlainBatch}
use Rattle.pfx_store_file.specs.declared.places.Places.{Places}
use Rattle.pfx_events_world.specs.Events.{Event, Device}
use Rattle.pfx_events_world.specs.World.{World, state_at}
use Rattle.pfx_events.specs.Reached.{IsReached}
use Rattle.pfx_events.specs.Store.{store_of}

-- these calls go through, one after the other
abbrev pub through : {J : Type 0} → List Act → List (Event J)
through [] = []
through (act ∷ calls) = Device true ∷ through calls

-- these calls go through, and then one fails
abbrev pub broken_off : {J : Type 0} → List Act → List (Event J)
broken_off gone = through gone ++ Device false ∷ []

module _ {J : Type 0} (K : Kind J) where
  -- the batch is of these commands at this state
  abbrev pub Carries : Plain J → List (Command J) → PlainBatch J → Type 0
  Carries s commands batch = batch ≡ record { first = s.number + 1; records = records_of K s commands }

  -- a store with these places and this body of a checkpoint on this disk is the world's: it has the file that the world
  -- has, the disk is after the calls that the world has done, and none is to come
  pub record IsIn (w : World (store_of K)) (places : Places) (body : List ℕ) (disk : View) : Type 0 where
    pub none : w.coming ≡ []
    pub has : HasFile K w.place places body
    pub after : IsAfter disk w.start w.done

  -- And so it goes on from there: a run leads to the world, the store has the state of what the flusher took, and the disk
  -- is honest.
  pub record IsTied {D : Type 0} (view : D → View) (B : Plain J) (w : World (store_of K)) (store : PlainStore D J) : Type 0 where
    pub reached : IsReached (store_of K) B w
    pub there : IsIn w store.file.places store.spelled (view store.file.disk)
    pub state : store.state ≡ state_at (store_of K) B w.book.accepted w.book.taken
    pub honest : IsHonest (view store.file.disk)
