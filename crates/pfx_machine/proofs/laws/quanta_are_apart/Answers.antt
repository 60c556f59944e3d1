use Rattle.pfx_machine.proofs.Rising.{quanta_rise}
use Rattle.pfx_machine.proofs.laws.quanta_are_apart.Goals as goal

pub returns : goal.returns
returns g c = quanta_rise g.J.Job.kind
