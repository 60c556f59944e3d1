use Rattle.std.proofs.Common.{◌≡◌, map, take}
use Rattle.pfx_machine.specs.Slots.{deal}
use Rattle.pfx_book_slot.proofs.slot.copies.Given as goal

abbrev pub invariant-loop-quantum : goal.invariant-loop-quantum
invariant-loop-quantum g l = map (λ q. deal q.number q.slot q.task q.before) l.copies.items ≡ map (λ q. deal q.number q.slot q.task q.before) (take l.quantum-index l.quanta)
