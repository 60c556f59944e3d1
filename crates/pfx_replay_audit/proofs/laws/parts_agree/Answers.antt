use Rattle.pfx_replay_audit.proofs.Folding.{agree_more}
use Rattle.pfx_replay_audit.proofs.laws.parts_agree.Goals as goal

pub returns : goal.returns
returns g c marks s xs ys = agree_more g.J.Job.kind g.met.J.Job.laws g.J.Units.unit marks s xs ys
