use Rattle.std.proofs.Common.{◌≡◌, ◌<◌, ◌+◌, ℕ, get_or}
use Rattle.pfx_store_image.specs.Layout.{Layout}
use Rattle.pfx_store_image.specs.NewFile.{new_file}
use Rattle.pfx_store_create.specs.Creating.{HasLengths}
use Rattle.pfx_store_create.proofs.bytes.fill.Given as goal

abbrev pub invariant-loop-i : goal.invariant-loop-i
invariant-loop-i l = (L : Layout) → HasLengths L l.head l.body l.segment → (k : ℕ) → k < l.i → get_or l.out k 0 ≡ get_or (new_file L l.head l.body l.first) (l.at + k) 0
