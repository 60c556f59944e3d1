use Rattle.pfx_machine.proofs.Compose.{outcome-outcome}
use Rattle.pfx_machine.proofs.laws.outcomes_compose.Goals as goal

pub returns : goal.returns
returns g c = outcome-outcome g.J.Job.kind g.met.J.Job.laws
