use Rattle.pfx_log_store.proofs.Going.{new_goes_on}
use Rattle.pfx_log_store.proofs.laws.new_logs_go_on.Goals as goal

pub returns : goal.returns
returns g c = new_goes_on g.J.Job.kind g.met.J.Job.laws
