use Rattle.std.proofs.Common.{refl}
use Rattle.pfx_log_store.proofs.Appending.{tend_keeps}
use Rattle.pfx_log_store.proofs.Kept.{all_lead}
use Rattle.pfx_log_store.proofs.beside.LoggedStore.tend.Goals as goal

pub returns-clause-beside : goal.returns-clause-beside
returns-clause-beside g c start all log is =
    let old = c.args.self.now in
    tend_keeps g.J.Job.kind g.met.J.Job.laws g.met.D.Disk.only_now g.met.L.Disk.only_now start all log old _ is refl c.tend.result c.tend.ensures.acts c.tend.ensures.state refl
    (c.tend.ensures.keeps is.honest start all (all_lead g.J.Job.kind g.met.J.Job.laws start all log old.copy.items old.store.state is.kept)) c.tend.ensures.call.honest.0 c.tend.ensures.call.works.whole c.tend.ensures.call.takes.later
