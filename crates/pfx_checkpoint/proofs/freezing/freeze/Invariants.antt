use Rattle.std.proofs.Common.{◌≡◌, length, take}
use Rattle.pfx_checkpoint.specs.Spelling.{front_bytes, place_of, state_len}
use Rattle.pfx_checkpoint.proofs.freezing.freeze.Given as goal

abbrev pub invariant-loop-task : goal.invariant-loop-task
invariant-loop-task g l =
    (take (place_of l.state.ledger.set.real l.task) l.bytes ≡ front_bytes g.J.Job.kind l.state l.task)
    × (length l.bytes ≡ state_len l.state.ledger.set)
