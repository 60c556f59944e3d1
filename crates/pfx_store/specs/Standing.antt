-- A store that isn't broken, and its disk.
use Rattle.std.specs.Prelude.{◌≡◌, ℕ, List, ◌∷◌, Some, true}
use Rattle.pfx_disk.specs.Disk.{View}
use Rattle.pfx_disk.specs.declared.gates.TheConstants.{GATE_OPEN}
use Rattle.pfx_store_format.specs.Areas.{read_area}
use Rattle.pfx_store_format.specs.Format.{format, IsOf}
use Rattle.pfx_store_header.specs.Headers.{Header}
use Rattle.pfx_jobs.specs.Kind.{Kind}
use Rattle.pfx_machine.specs.Plain.{Plain}
use Rattle.pfx_store_image.specs.Store.{Parts}
use Rattle.pfx_store_file.specs.Holding.{Holds, IsPending}
use Rattle.pfx_store_file.specs.declared.places.Places.{Places}

-- Under some header and with some parts the store holds on the disk at this state, which is of the header; if a
-- checkpoint is in progress, its body is that of the state at the turn.
pub record Stands {J : Type 0} (K : Kind J) (places : Places) (s : Plain J) (spelled : List ℕ) (disk : View) : Type 0 where
  pub header : Header
  pub parts : Parts (Plain J)
  pub holds : Holds (format K) header places parts s spelled disk
  pub of : IsOf header s
  pub middle : parts.turned ≡ true → read_area K header spelled ≡ Some parts.middle

-- these bytes, with a closed gate behind them, are what stands behind the gate of this frame
abbrev pub IsBehind : List ℕ → List ℕ → Type 0
IsBehind frame bytes = (body : List ℕ) × (frame ≡ GATE_OPEN ∷ body) × IsPending bytes body
