use Rattle.pfx_replay_totals.proofs.Growing.{behind_is}
use Rattle.pfx_replay_totals.proofs.laws.lags_are_those_behind.Goals as goal

pub returns : goal.returns
returns g c = behind_is g.J.Job.kind g.met.J.Job.laws
