use Rattle.pfx_store_engine.proofs.SessionLemmas.{gone_on}
use Rattle.pfx_store_engine.proofs.laws.sessions_go_on.Goals as goal

pub returns : goal.returns
returns g c start sessions last h =
    let all = gone_on g.J.Job.kind g.met.J.Job.laws start sessions last h in
    (all.held, all.are, all.accepted, all.reached)
