use Rattle.std.proofs.Common.{◌≡◌}
use Rattle.pfx_checkpoint.specs.Found.{allocs_at}
use Rattle.pfx_checkpoint.proofs.reading.allocs_at.Given as goal

abbrev pub invariant-loop-task : goal.invariant-loop-task
invariant-loop-task l = l.allocs.items ≡ allocs_at l.set.real l.task l.bytes
