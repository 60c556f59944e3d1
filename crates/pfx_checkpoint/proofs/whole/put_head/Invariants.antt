use Rattle.std.proofs.Common.{◌≡◌, ◌+◌, ◌*◌, ◌++◌, length, take}
use Rattle.pfx_weights.specs.Bytes.{weights_bytes}
use Rattle.pfx_checkpoint.specs.Whole.{before_bytes}
use Rattle.pfx_checkpoint.proofs.whole.put_head.Given as goal

abbrev pub invariant-loop-task : goal.invariant-loop-task
invariant-loop-task g l =
    (take (25 + 8 * l.task) l.head ≡ before_bytes l.state ++ weights_bytes (take l.task l.state.ledger.set.weights))
    × (length l.head ≡ 25 + 8 * l.state.ledger.set.real)
