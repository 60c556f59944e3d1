use Rattle.std.proofs.Common.{◌≡◌}
use Rattle.pfx_checkpoint.specs.Found.{jobs_at}
use Rattle.pfx_checkpoint.proofs.reading.jobs_at.Given as goal

abbrev pub invariant-loop-task : goal.invariant-loop-task
invariant-loop-task g l = l.jobs.items ≡ jobs_at g.J.Job.kind l.task l.bytes
