-- The frames that are copied of the segment that frames go to.
use Rattle.std.specs.Prelude.{◌≤◌, ◌+◌, ℕ}
use Rattle.pfx_store_image.specs.declared.head.TheConstants.{SEGMENT_HEAD}
use Rattle.pfx_store_file.specs.declared.places.Places.{Places}

-- so many bytes are copied at most of the segment that frames go to: they lie between its front and the next frame's gate
abbrev pub FitsIn : ℕ → Places → Type 0
FitsIn copied places = copied + SEGMENT_HEAD + places.end ≤ places.gate + places.sizes.segment
