-- The room that a store's file has by its places.
use Rattle.std.specs.Prelude.{◌≡◌, ◌+◌, ◌<◌, ℕ}
use Rattle.pfx_store_image.specs.declared.head.TheConstants.{SEGMENT_HEAD}
use Rattle.pfx_store_file.specs.declared.places.Places.{Places}
use Rattle.pfx_store_file.specs.declared.progress.Checkpoint.TheVariants.{Ended}

-- the segment that frames go to has none: the next frame's gate is its tenth byte
abbrev pub IsEmpty : Places → Type 0
IsEmpty places = places.end + SEGMENT_HEAD ≡ places.gate + places.sizes.segment

-- no checkpoint is in progress, and the segment that frames go to has one: the next frame's gate lies after that byte
abbrev pub IsTurnable : Places → Type 0
IsTurnable places = (places.checkpoint ≡ Ended) × (places.end + SEGMENT_HEAD < places.gate + places.sizes.segment)

-- n bytes have room before the next frame's gate and the segment's end
abbrev pub HasRoom : ℕ → Places → Type 0
HasRoom n places = places.gate + n < places.end
