use Rattle.pfx_log_store.proofs.Together.{joined}
use Rattle.pfx_log_store.proofs.beside.LoggedStore.new.Goals as goal

pub returns-in-Ok-with_capacity-clause-logged : goal.returns-in-Ok-with_capacity-clause-logged
returns-in-Ok-with_capacity-clause-logged g c start all log can = joined g.J.Job.kind g.met.J.Job.laws start all log c.args.frames.now _ can (c.is_broken-broken.ensures.stands can.whole can.honest) c.in-Ok.ensures.items
