use Rattle.std.proofs.Common.{◌≡◌, ◌++◌, map, length, Some, option_map, vec_capacity}
use Rattle.pfx_machine.specs.Slots.{deal}
use Rattle.pfx_book_slot.proofs.slot.collect.Given as goal

abbrev pub invariant-loop-place : goal.invariant-loop-place
invariant-loop-place g l =
    (map (λ d. Some (deal d.number d.slot d.task d.before)) l.all.items ≡ map (option_map (λ d. deal d.number d.slot d.task d.before)) l.yielded)
    × (length l.all.items ≡ length l.yielded)
    × (vec_capacity l.all ≡ vec_capacity l.fn.dones)
    × (l.fn.back.items ≡ l.yielded ++ l.place-iterator.rest.items)
