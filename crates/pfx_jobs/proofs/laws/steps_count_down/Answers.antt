use Rattle.pfx_jobs.proofs.FromLaws.{left-times}
use Rattle.pfx_jobs.proofs.laws.steps_count_down.Goals as goal

pub returns : goal.returns
returns g c = left-times g.J.Job.kind g.met.J.Job.laws
