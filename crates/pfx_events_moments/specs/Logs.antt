-- What happened at a front, as two lists: the steps that changed its book, and the calls of its disk.
use Rattle.std.specs.Prelude.{◌≡◌, ◌≤◌, ℕ, zero, suc, List, [], ◌∷◌, ◌++◌, length, take, Bool, true, false}
use Rattle.pfx_disk_chronicle.specs.Chart.{acts_of}
use Rattle.pfx_disk_chronicle.specs.declared.made.Made.{Made}
use Rattle.pfx_disk.specs.Stop.{Act, Left}
use Rattle.pfx_jobs.specs.Kind.{Kind}
use Rattle.pfx_machine.specs.Plain.{Plain}
use Rattle.pfx_machine.specs.declared.command.Command.{Command}
use Rattle.pfx_store.specs.Files.{FileOf}
use Rattle.pfx_events_world.specs.Events.{Event, Ask, Begin, Step, Give, Seal, Take, Tend, Device, Publish, Mark, Fail, Receipt, CanRun, run}
use Rattle.pfx_events_world.specs.Setting.{Settled}
use Rattle.pfx_events_world.specs.World.{World}
use Rattle.pfx_events.specs.Reached.{going_world}
use Rattle.pfx_events.specs.Store.{store_of}

-- one entry for each call that changed the book
pub data Entry (J : Type 0) : Type 0 where
  Asked : Command J → Entry J  -- a Submit or Withdraw was accepted
  Begun : Entry J  -- a slot was opened
  Came : ℕ → Entry J  -- the quantum at this place of the open slot was run, and its result came back
  Sealed : Entry J  -- the open slot was ended
  Took : ℕ → Entry J  -- the flusher took so many commands, whose calls may follow
  Tended : Entry J  -- it began a step of the checkpoint, whose calls may follow
  Did : ℕ → Bool → Entry J  -- so many of these calls had gone through, and none had failed, or the next one
  Published : Entry J
  Marked : Entry J
  GaveUp : Entry J
  Receipted : ℕ → Entry J

module _ {J : Type 0} where
  -- so many calls of the disk that succeed
  abbrev pub devices : ℕ → List (Event J)
  devices zero = []
  devices (suc k) = Device true ∷ devices k

  -- the events of an entry
  abbrev pub events_in : Entry J → List (Event J)
  events_in (Asked c) = Ask c ∷ []
  events_in Begun = Begin ∷ []
  events_in (Came place) = Step place ∷ Give 0 place ∷ []
  events_in Sealed = Seal ∷ []
  events_in (Took n) = Take n ∷ []
  events_in Tended = Tend ∷ []
  events_in (Did k true) = devices k
  events_in (Did k false) = devices k ++ Device false ∷ []
  events_in Published = Publish ∷ []
  events_in Marked = Mark ∷ []
  events_in GaveUp = Fail ∷ []
  events_in (Receipted n) = Receipt n ∷ []

  -- the events of entries, one after the other
  abbrev pub events_of : List (Entry J) → List (Event J)
  events_of [] = []
  events_of (e ∷ entries) = events_in e ++ events_of entries

module _ {J : Type 0} (K : Kind J) (B : Plain J) (image : List ℕ) (place : FileOf J) where
  -- the world that the entries tell, from a file with this image
  abbrev pub world_of : List (Entry J) → World (store_of K)
  world_of entries = run (store_of K) B (going_world (store_of K) B image [] place) (events_of entries)

  -- The two lists tell one run: the entries may happen where they stand, and the disk's calls leave no more than the world's, with some of
  -- those that are to come.
  pub record IsLog (entries : List (Entry J)) (made : List Made) : Type 0 where
    pub settled : Settled (store_of K) image [] B place
    pub can : CanRun (store_of K) B (going_world (store_of K) B image [] place) (events_of entries)
    pub goes_on : (world_of entries).book.halted ≡ false
    pub gone : List Act
    pub rest : List Act
    pub coming : (world_of entries).coming ≡ gone ++ rest
    pub told : (left : List ℕ) → Left image (acts_of made) left → Left (world_of entries).start ((world_of entries).done ++ gone) left

  -- so it was at each moment
  abbrev pub IsHistory : List (Entry J) → List Made → Type 0
  IsHistory entries made = (k : ℕ) → k ≤ length made → (j : ℕ) × IsLog (take j entries) (take k made)
