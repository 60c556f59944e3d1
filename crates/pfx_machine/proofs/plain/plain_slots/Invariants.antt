use Rattle.std.proofs.Common.{◌≡◌, ◌≤◌, take}
use Rattle.pfx_choice.specs.Plans.{times_in}
use Rattle.pfx_machine.specs.Happenings.{rows_of}
use Rattle.pfx_machine.proofs.plain.plain_slots.Given as goal

abbrev pub invariant-loop-one : goal.invariant-loop-one
invariant-loop-one g l = (l.count ≡ times_in (rows_of (take l.one-index l.happened)) l.fn.task) × (l.count ≤ l.one-index)
