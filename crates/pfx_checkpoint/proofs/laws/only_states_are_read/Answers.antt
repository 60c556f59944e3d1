use Rattle.pfx_checkpoint.proofs.Readings.{only_states}
use Rattle.pfx_checkpoint.proofs.laws.only_states_are_read.Goals as goal

pub returns : goal.returns
returns g c = only_states g.J.Job.kind
