use Rattle.std.proofs.Common.{◌≡◌, ◌≢◌, ◌<◌, ℕ, map, slice_get, Some, None, option_map}
use Rattle.pfx_machine.specs.Slots.{deal}
use Rattle.pfx_book_slot.proofs.slot.OpenSlot.missing.Given as goal

abbrev pub invariant-loop-i : goal.invariant-loop-i
invariant-loop-i g l = (k : ℕ) → k < l.i → slice_get l.self.back k ≢ Some None
