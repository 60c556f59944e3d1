-- What an image holds of a world's commands.
use Rattle.std.specs.Prelude.{◌≡◌, ◌≤◌, ℕ, List, length, take, Ok}
use Rattle.pfx_disk_chronicle.specs.Chart.{Noted, acts_of, noted_view}
use Rattle.pfx_disk.specs.Stop.{Left}
use Rattle.pfx_store_format.specs.Format.{format}
use Rattle.pfx_jobs.specs.Kind.{Kind}
use Rattle.pfx_machine.specs.Outcome.{outcome}
use Rattle.pfx_machine.specs.Plain.{Plain}
use Rattle.pfx_machine.specs.declared.command.Command.{Command}
use Rattle.pfx_store_image.specs.Recovery.{recovered}
use Rattle.pfx_store.specs.Stores.{PlainStore}
use Rattle.pfx_events_world.specs.World.{World}
use Rattle.pfx_events.specs.Store.{store_of}
use Rattle.pfx_events.specs.Ties.{IsTied}

module _ {J : Type 0} (K : Kind J) where
  -- an image is recovered to the outcome of first commands, this number among them
  pub record Holds (B : Plain J) (accepted : List (Command J)) (n : ℕ) (image : List ℕ) : Type 0 where
    pub count : ℕ
    pub few : count ≤ length accepted
    pub recovered : recovered (format K) image ≡ Ok (outcome K B (take count accepted))
    pub number : n ≤ (outcome K B (take count accepted)).number

  -- a store on a disk that tells its calls is the world's
  abbrev pub IsTold : {D : Type 0} → Type 0 → List ℕ → ℕ → ℕ → (B : Plain J) → World (store_of K) → PlainStore (Noted D) J → Type 0
  IsTold held start first before B w store = IsTied K (noted_view held start first before) B w store
