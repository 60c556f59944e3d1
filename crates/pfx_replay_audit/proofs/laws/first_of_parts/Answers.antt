use Rattle.pfx_replay_audit.proofs.Folding.{first_more}
use Rattle.pfx_replay_audit.proofs.laws.first_of_parts.Goals as goal

pub returns : goal.returns
returns g c marks s xs ys = first_more g.J.Job.kind g.met.J.Job.laws g.J.Units.unit marks s xs ys
