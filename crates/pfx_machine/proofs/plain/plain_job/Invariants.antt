use Rattle.std.proofs.Common.{◌≡◌, take}
use Rattle.pfx_machine.specs.Outcome.{job_after}
use Rattle.pfx_machine.proofs.plain.plain_job.Given as goal

abbrev pub invariant-loop-one : goal.invariant-loop-one
invariant-loop-one g l = l.job ≡ job_after g.J.Job.kind l.fn.task l.fn.before (take l.one-index l.happened)
