use Rattle.pfx_log_store.proofs.Going.{stopped}
use Rattle.pfx_log_store.proofs.laws.stopped_go_on.Goals as goal

pub returns : goal.returns
returns g c = stopped g.J.Job.kind g.met.J.Job.laws
