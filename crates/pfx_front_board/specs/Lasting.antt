-- What a list of the disk's calls keeps of the durable batches, whatever comes after it.
use Rattle.std.specs.Prelude.{◌≡◌, ℕ, List, Some, Ok}
use Rattle.pfx_disk_chronicle.specs.Chart.{acts_of}
use Rattle.pfx_disk_chronicle.specs.declared.made.Made.{Made}
use Rattle.pfx_disk.specs.Stop.{Left}
use Rattle.pfx_store_format.specs.Format.{format}
use Rattle.pfx_jobs.specs.Kind.{Kind}
use Rattle.pfx_machine.specs.Plain.{Plain}
use Rattle.pfx_record.specs.declared.batch.Batch.{Batch}
use Rattle.pfx_store_image.specs.Recovery.{recovered}
use Rattle.pfx_record_redo.specs.Applying.{applied}
use Rattle.pfx_front_board.specs.Word.{records_of}

module _ {J : Type 0} (K : Kind J) (origin : Plain J) where
  -- an image is recovered to the state after these batches
  pub record Recovers (batches : List (Batch J)) (image : List ℕ) : Type 0 where
    pub state : Plain J
    pub recovered : recovered (format K) image ≡ Ok state
    pub leads : applied K origin (records_of batches) ≡ Some state

  -- a disk that held this, under a premise, and on which these calls were made, leaves nothing but images of the state after the batches
  abbrev pub IsDurable : Type 0 → List ℕ → List Made → List (Batch J) → Type 0
  IsDurable held start made batches = held → (image : List ℕ) → Left start (acts_of made) image → ∥ Recovers batches image ∥₁
