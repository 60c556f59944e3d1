-- A store's file by its parts, and what is known of it besides, as the places of a store have it.
use Rattle.std.specs.Prelude.{◌≡◌, ℕ, List, Bool, not, if◌then◌else◌}
use Rattle.pfx_store_image.specs.Codec.{Codec}
use Rattle.pfx_store_image.specs.Layout.{area_at, segment_at, is_open}
use Rattle.pfx_store_image.specs.Store.{Parts}
use Rattle.pfx_store_file.specs.Holding.{ArePlaces}
use Rattle.pfx_store_file.specs.declared.places.Places.{Places}
use Rattle.pfx_store_file.specs.declared.progress.Checkpoint.{Checkpoint}
use Rattle.pfx_store_file.specs.declared.progress.Checkpoint.TheVariants.{Ended, Pending}

-- The header and the parts; whether the gates of the checkpoint area and of the segment that aren't in use stand open; and how far the
-- checkpoint in progress is, if there is one.
pub record File (H S : Type 0) : Type 0 where
  pub head : H
  pub parts : Parts S
  pub area_open : Bool
  pub segment_open : Bool
  pub checkpoint : Checkpoint

module _ {H S : Type 0} (K : Codec H S) where
  -- where the checkpoint area that isn't in use stands
  abbrev pub area_of : File H S → ℕ
  area_of f = area_at (K.layout f.head) (not f.parts.area)

  -- where the segment that isn't in use stands
  abbrev pub segment_of : File H S → ℕ
  segment_of f = segment_at (K.layout f.head) (not f.parts.segment)

  -- the file that is found in an image: the gates stand as they do there, and a checkpoint in progress begins anew
  abbrev pub file_in : List ℕ → H → Parts S → File H S
  file_in image h p = record {
    head = h;
    parts = p;
    area_open = is_open (area_at (K.layout h) (not p.area)) image;
    segment_open = is_open (segment_at (K.layout h) (not p.segment)) image;
    checkpoint = if p.turned then Pending else Ended;
  }

  -- the places of a store are those of the file
  pub record AreOf (f : File H S) (places : Places) : Type 0 where
    pub are : ArePlaces K f.head f.parts places
    pub area_open : places.area_open ≡ f.area_open
    pub segment_open : places.segment_open ≡ f.segment_open
    pub checkpoint : places.checkpoint ≡ f.checkpoint
