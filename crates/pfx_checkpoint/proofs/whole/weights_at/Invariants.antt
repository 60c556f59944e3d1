use Rattle.std.proofs.Common.{◌≡◌, drop}
use Rattle.pfx_weights.specs.Bytes.{weights_of}
use Rattle.pfx_checkpoint.proofs.whole.weights_at.Given as goal

abbrev pub invariant-loop-task : goal.invariant-loop-task
invariant-loop-task l = l.weights.items ≡ weights_of l.task (drop 25 l.bytes)
