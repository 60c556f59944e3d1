use Rattle.std.proofs.Common.{◌≡◌, ◌≤◌, ◌+◌, ◌++◌, length, drop, vec_len, vec_capacity}
use Rattle.pfx_weights.specs.Bytes.{weight_bytes}
use Rattle.pfx_record.specs.Begins.{joined}
use Rattle.pfx_record.proofs.write.push_weights.Given as goal

abbrev pub invariant-loop-weight : goal.invariant-loop-weight
invariant-loop-weight l = record {
  written : l.out.items ++ joined weight_bytes (drop l.weight-index l.weights) ≡ l.initial.out.items ++ joined weight_bytes l.weights;
  room : vec_len l.out + length (joined weight_bytes (drop l.weight-index l.weights)) ≤ vec_capacity l.out;
  grows : vec_capacity l.initial.out ≤ vec_capacity l.out;
}
