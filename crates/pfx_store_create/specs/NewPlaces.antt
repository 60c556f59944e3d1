-- The places of a new file's parts.
use Rattle.std.specs.Prelude.{◌≡◌, ℕ, ◌+◌, ◌*◌, false}
use Rattle.pfx_store_image.specs.declared.head.TheConstants.{SEGMENT_HEAD}
use Rattle.pfx_store_file.specs.declared.places.Places.{Places}
use Rattle.pfx_store_file.specs.declared.progress.Checkpoint.TheVariants.{Ended}

-- the first checkpoint area and the first segment are in use, with no frame and no checkpoint in progress, and the other gates closed
pub record AreNew (head_len body_len long : ℕ) (places : Places) : Type 0 where
  pub head : places.sizes.head ≡ head_len
  pub body : places.sizes.body ≡ body_len
  pub segment_len : places.sizes.segment ≡ long
  pub area : places.area ≡ false
  pub segment : places.segment ≡ false
  pub checkpoint : places.checkpoint ≡ Ended
  pub gate : places.gate ≡ head_len + 2 * (1 + body_len) + SEGMENT_HEAD
  pub end : places.end ≡ head_len + 2 * (1 + body_len) + long
  pub area_open : places.area_open ≡ false
  pub segment_open : places.segment_open ≡ false
