use Rattle.pfx_machine.proofs.Snoc.{outcome-snoc}
use Rattle.pfx_machine_feasible.proofs.laws.steps_agree.Goals as goal

pub returns : goal.returns
returns g c = outcome-snoc g.J.Job.kind g.met.J.Job.laws
