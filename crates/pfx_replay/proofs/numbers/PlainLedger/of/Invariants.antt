use Rattle.std.proofs.Common.{◌≡◌, take}
use Rattle.pfx_replay.proofs.numbers.PlainLedger.of.Given as goal

abbrev pub invariant-loop-x : goal.invariant-loop-x
invariant-loop-x l = record {
  weights : l.weights.items ≡ take l.x l.columns.set.weights;
  allocations : l.allocations.items ≡ take l.x l.columns.allocs;
}
