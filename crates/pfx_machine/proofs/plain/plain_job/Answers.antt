use Rattle.pfx_machine.proofs.PlainLemmas.{job_next}
use Rattle.pfx_machine.proofs.plain.plain_job.Goals as goal

pub loop-one-preserved : goal.loop-one-preserved
loop-one-preserved g c =
    job_next g.J.Job.kind g.met.J.Job.laws c.args.task c.args.before c.loop-one.job c.after_one-job.result c.args.happened.now c.loop-one.one-index c.one-item.result
    c.loop-one-test.true c.one-item.is c.loop-one.invariant c.after_one-job.ensures
