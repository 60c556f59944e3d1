use Rattle.pfx_machine.proofs.Keeping.{prefix_is_state}
use Rattle.pfx_machine.proofs.laws.prefixes_are_states.Goals as goal

pub returns : goal.returns
returns g c = prefix_is_state g.J.Job.kind g.met.J.Job.laws
