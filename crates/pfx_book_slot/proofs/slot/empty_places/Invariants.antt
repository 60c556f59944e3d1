use Rattle.std.proofs.Common.{◌≡◌, map, take, length, Some, None, option_map}
use Rattle.pfx_machine.specs.Slots.{deal}
use Rattle.pfx_book_slot.proofs.slot.empty_places.Given as goal

abbrev pub invariant-loop-quantum : goal.invariant-loop-quantum
invariant-loop-quantum g l = (map (option_map (λ d. deal d.number d.slot d.task d.before)) l.back.items ≡ map (λ q. None) (take l._quantum-index l.quanta)) × (length l.back.items ≡ l._quantum-index)
