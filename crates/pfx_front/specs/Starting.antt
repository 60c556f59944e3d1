-- What a front begins with.
use Rattle.std.specs.Prelude.{◌≡◌, ℕ, List, Bool, false, Ok}
use Rattle.pfx_disk.specs.Disk.{View, IsHonest, Only}
use Rattle.pfx_store_format.specs.Format.{format}
use Rattle.pfx_jobs.specs.Kind.{Kind}
use Rattle.pfx_machine.specs.Plain.{Plain}
use Rattle.pfx_store_image.specs.Recovery.{recovered}
use Rattle.pfx_store.specs.Noting.{IsHeldBy}
use Rattle.pfx_store.specs.Stores.{PlainStore}

-- A whole store at this state, on a disk that has failed so often and whose clock is here. Under a premise these bytes stand for the
-- store; an honest disk meets it, and holds them and nothing else.
pub record Begins {D J : Type 0} (K : Kind J) (start : Plain J) (failed first : ℕ) (held : Type 0) (image : List ℕ) (store : PlainStore D J)
    (disk : View) : Type 0 where
  pub whole : store.file.broken ≡ false
  pub state : store.state ≡ start
  pub failures : disk.failures ≡ failed
  pub clock : disk.clock ≡ first
  pub honest : IsHonest disk → held × (disk.contents ≡ image) × Only image disk
  pub stands : held → IsHeldBy K store image

-- a front begins so whose premise is that the disk is honest: then it holds what is read of it
abbrev pub BeginsHonest : {D J : Type 0} → Kind J → PlainStore D J → View → Type 0
BeginsHonest K store disk = Begins K store.state disk.failures disk.clock (IsHonest disk) disk.contents store disk

-- a whole store at this state, with so many failures of its disk after it and at this moment; each image since then has it
pub record IsFresh {J : Type 0} (K : Kind J) (start : Plain J) (failed now : ℕ) (broken : Bool) (s : Plain J) (disk : View) : Type 0 where
  pub whole : broken ≡ false
  pub state : s ≡ start
  pub failures : disk.failures ≡ failed
  pub clock : disk.clock ≡ now
  pub images : IsHonest disk → (image : List ℕ) → disk.since disk.clock image → recovered (format K) image ≡ Ok s
