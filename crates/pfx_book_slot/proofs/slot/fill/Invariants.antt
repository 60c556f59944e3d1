use Rattle.std.proofs.Common.{◌≡◌, map, take, vec_capacity}
use Rattle.pfx_machine.specs.Slots.{deal}
use Rattle.pfx_record_redo.specs.Recording.{after_in}
use Rattle.pfx_book_slot.proofs.slot.fill.Given as goal

abbrev pub invariant-loop-i : goal.invariant-loop-i
invariant-loop-i g l = (l.filled.items ≡ map (λ x. record { task = x; state = after_in g.J.Job.kind x (map (λ d. deal d.number d.slot d.task d.before) l.dones) }) (take l.i l.row)) × (vec_capacity l.filled ≡ vec_capacity l.fn.places)
