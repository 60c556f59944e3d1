use Rattle.pfx_checkpoint.proofs.Wholes.{only_whole}
use Rattle.pfx_checkpoint.proofs.laws.only_whole_states_are_read.Goals as goal

pub returns : goal.returns
returns g c = only_whole g.J.Job.kind
