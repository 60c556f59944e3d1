use Rattle.std.proofs.Common.{◌≡◌, drop}
use Rattle.pfx_weights.specs.Bytes.{weights_of}
use Rattle.pfx_store_header.proofs.reading.tasks_at.Given as goal

abbrev pub invariant-loop-task : goal.invariant-loop-task
invariant-loop-task l = l.tasks.items ≡ weights_of l.task (drop 17 l.bytes)
