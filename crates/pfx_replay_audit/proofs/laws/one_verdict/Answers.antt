use Rattle.pfx_replay_audit.proofs.Excluding.{never_both}
use Rattle.pfx_replay_audit.proofs.laws.one_verdict.Goals as goal

pub returns : goal.returns
returns g c marks s xs = never_both g.J.Job.kind g.met.J.Job.laws g.J.Units.unit marks s xs
