use Rattle.pfx_checkpoint.proofs.Wholes.{whole_long, whole_read}
use Rattle.pfx_checkpoint.proofs.laws.whole_states_are_read.Goals as goal

pub returns-clause-long : goal.returns-clause-long
returns-clause-long g c = whole_long g.J.Job.kind g.met.J.Job.laws

pub returns-clause-read : goal.returns-clause-read
returns-clause-read g c = whole_read g.J.Job.kind g.met.J.Job.laws
