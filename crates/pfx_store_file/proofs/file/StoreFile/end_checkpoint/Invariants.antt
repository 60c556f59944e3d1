use Rattle.std.proofs.Common.{◌≡◌, ◌↔◌, ◌+◌, ℕ, List, length, Some, true, false}
use Rattle.pfx_disk.specs.Disk.{IsHonest}
use Rattle.pfx_store_image.specs.Codec.{Codec, Laws}
use Rattle.pfx_store_image.specs.Store.{Parts, Replays}
use Rattle.pfx_store_file.specs.Checkpoints.{in_progress}
use Rattle.pfx_store_file.specs.Calls.{GoesOn}
use Rattle.pfx_store_file.specs.Holding.{Holds, KeepsAll}
use Rattle.pfx_store_file.specs.Tending.{StaysPut, calls_left, steps_left, settled_unless}
use Rattle.pfx_store_file.specs.Files.{File, AreOf}
use Rattle.pfx_store_file.proofs.Ends.{Walked}
use Rattle.pfx_store_file.proofs.file.StoreFile.end_checkpoint.Given as goal

abbrev pub invariant-steps : goal.invariant-steps
invariant-steps g l =
    let old = g.D.Disk.view l.fn.self.disk in
    let now = g.D.Disk.view l.self.disk in
    record {
      whole : l.self.broken ≡ false;
      long : length l.spelling ≡ l.self.places.sizes.body;
      goes : GoesOn old now;
      spent : now.clock + calls_left l.self.places ≡ old.clock + calls_left l.fn.self.places;
      worked : now.failures ≡ old.failures;
      honest : IsHonest old ↔ IsHonest now;
      parts : l.self.places.sizes ≡ l.fn.self.places.sizes;
      stays : StaysPut l.fn.self.places l.self.places;
      holds : (K : Codec g.row.H.Denot g.row.S.Denot) → Laws K → (h : g.row.H.Denot) → (p : Parts g.row.S.Denot) → (s : g.row.S.Denot) → Holds K h l.fn.self.places p s l.spelling old → (p.turned ≡ true → K.read_state h l.spelling ≡ Some p.middle)
          → Holds K h l.self.places (settled_unless (in_progress l.self.places.checkpoint) p) s l.spelling now;
      walked : (K : Codec g.row.H.Denot g.row.S.Denot) → (f : File g.row.H.Denot g.row.S.Denot) → AreOf K f l.fn.self.places → IsHonest old → Walked K f l.spelling l.self.places old now;
      keeps : (K : Codec g.row.H.Denot g.row.S.Denot) → Laws K → (h : g.row.H.Denot) → (p : Parts g.row.S.Denot) → (s : g.row.S.Denot) → Holds K h l.fn.self.places p s l.spelling old → (p.turned ≡ true → K.read_state h l.spelling ≡ Some p.middle)
          → (start : g.row.S.Denot) → (all : List (List ℕ)) → Replays K start all s → KeepsAll K start all all old now;
    }

abbrev pub decreases-steps : goal.decreases-steps
decreases-steps g l = steps_left l.self.places
