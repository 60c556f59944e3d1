use Rattle.std.proofs.Common.{◌≡◌, map, take}
use Rattle.pfx_replay.proofs.numbers.PlainLedger.begin.Given as goal

abbrev pub invariant-loop-x : goal.invariant-loop-x
invariant-loop-x l = record {
  weights : l.weights.items ≡ take l.x l.set.weights;
  allocations : l.allocations.items ≡ take l.x (map (λ w. 0) l.set.weights);
}
