use Rattle.pfx_replay_audit.proofs.Excluding.{first_in_front}
use Rattle.pfx_replay_audit.proofs.laws.first_of_front.Goals as goal

pub returns : goal.returns
returns g c marks s xs ys = first_in_front g.J.Job.kind g.met.J.Job.laws g.J.Units.unit marks s xs ys
