use Rattle.pfx_replay_totals.proofs.Growing.{grows, is_near}
use Rattle.pfx_replay_totals.proofs.laws.lags_grow_by_what_is_due.Goals as goal

pub returns : goal.returns
returns g c = record { lags = grows g.J.Job.kind g.met.J.Job.laws; near = is_near g.J.Job.kind g.met.J.Job.laws }
