use Rattle.pfx_checkpoint.proofs.Readings.{frozen_read}
use Rattle.pfx_checkpoint.proofs.laws.frozen_states_are_read.Goals as goal

pub returns : goal.returns
returns g c = frozen_read g.J.Job.kind g.met.J.Job.laws
