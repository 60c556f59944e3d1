use Rattle.std.proofs.Common.{◌≡◌, ◌≤◌, ◌^◌, ◌*◌, take}
use Rattle.pfx_weights.specs.Sets.{demand}
use Rattle.pfx_program_check.proofs.load.demand.Given as goal

abbrev pub invariant-loop-w : goal.invariant-loop-w
invariant-loop-w l = record { sum : l.sum ≡ demand l.hyper (take l.w-index l.tasks); bound : l.sum ≤ 2 ^ 20 * l.w-index }
