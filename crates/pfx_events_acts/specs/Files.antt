-- What stands in each image of a store's file.
use Rattle.std.specs.Prelude.{◌≡◌, ℕ, ◌+◌, List, take, true, false}
use Rattle.pfx_store_image.specs.Codec.{Codec}
use Rattle.pfx_store_image.specs.Store.{IsStore}
use Rattle.pfx_segment.specs.Segment.{StandAt}
use Rattle.pfx_store_file.specs.Checkpoints.{is_begun, written}
use Rattle.pfx_store_file.specs.Files.{File, area_of, segment_of}
use Rattle.pfx_store_file.specs.Holding.{IsGate}

module _ {H S : Type 0} (K : Codec H S) where
  -- the image is one of the store with this file at this state
  pub record IsFile (s : S) (f : File H S) (image : List ℕ) : Type 0 where
    pub store : IsStore K f.head f.parts s image
    pub area_gate : IsGate f.area_open (area_of K f) image
    pub segment_gate : f.parts.turned ≡ false → IsGate f.segment_open (segment_of K f) image
    pub begun : is_begun f.checkpoint ≡ true → (f.parts.turned ≡ true) × (f.area_open ≡ false)

  -- And so much of the checkpoint in progress, whose body is spelled so, stands in it as was written: a read gives it, a
  -- stop may leave it out.
  pub record IsWhole (spelling : List ℕ) (s : S) (f : File H S) (image : List ℕ) : Type 0 where
    pub file : IsFile s f image
    pub stand : is_begun f.checkpoint ≡ true → StandAt (area_of K f + 1) (take (written f.checkpoint) spelling) image
