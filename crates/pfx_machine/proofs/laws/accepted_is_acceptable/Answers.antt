use Rattle.pfx_machine.proofs.RunLemmas.{accepted_acceptable}
use Rattle.pfx_machine.proofs.laws.accepted_is_acceptable.Goals as goal

pub returns : goal.returns
returns g c = accepted_acceptable g.J.Job.kind
