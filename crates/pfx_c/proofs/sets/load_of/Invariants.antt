use Rattle.std.proofs.Common.{◌≡◌, ◌≤◌, ◌^◌, ◌*◌, take}
use Rattle.pfx_weights.specs.Sets.{demand}
use Rattle.pfx_c.proofs.sets.load_of.Given as goal

abbrev pub invariant-loop-x : goal.invariant-loop-x
invariant-loop-x l = record { sum : l.load ≡ demand l.hyper (take l.x l.set.weights); bound : l.load ≤ 2 ^ 20 * l.x }
