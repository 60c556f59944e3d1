use Rattle.std.proofs.Common.{◌≡◌, length}
use Rattle.pfx_store_format.proofs.Resting.{IdleSoFar}
use Rattle.pfx_store_format.proofs.idle.read_idle.Given as goal

abbrev pub invariant-loop-i : goal.invariant-loop-i
invariant-loop-i g l = record {
  long : length l.tasks ≡ 64;
  so_far : IdleSoFar g.J.Job.kind l.bytes l.tasks l.i l.low;
}
