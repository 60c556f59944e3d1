use Rattle.std.proofs.Common.{◌≡◌, take, map}
use Rattle.pfx_machine.specs.Slots.{deal}
use Rattle.pfx_record_redo.specs.Recording.{after_in}
use Rattle.pfx_record_redo.proofs.recording.places_of.Given as goal

abbrev pub invariant-loop-i : goal.invariant-loop-i
invariant-loop-i g l = l.places.items ≡ map (λ x. record { task = x; state = after_in g.J.Job.kind x (map (λ d. deal d.number d.slot d.task d.before) l.dones) }) (take l.i l.row)
