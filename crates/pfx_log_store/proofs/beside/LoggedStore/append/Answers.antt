use Rattle.std.proofs.Common.{sym, ◌∙◌, refl}
use Rattle.pfx_record.specs.Batches.{batch_of}
use Rattle.pfx_log_store.proofs.Appending.{append_keeps}
use Rattle.pfx_log_store.proofs.Logging.{on_not_ok, on_ok_all}
use Rattle.pfx_log_store.proofs.beside.LoggedStore.append.Goals as goal

pub returns-then-is_ok-clause-beside : goal.returns-then-is_ok-clause-beside
returns-then-is_ok-clause-beside g c start all log H of is =
    append_keeps g.J.Job.kind g.met.J.Job.laws g.met.D.Disk.only_now g.met.L.Disk.only_now start all log c.args.self.now _ is refl c.append-result.result (batch_of c.args.batch.now.first c.args.batch.now.records.items) H of
    c.append-result.ensures.acts c.append-result.ensures.state.moved (c.append-result.ensures.commits is.honest) c.append-result.ensures.call.honest.0 c.append-result.ensures.call.works.whole
    (on_ok_all c.append-result.result c.write_batch.ensures.spelled) c.requires.ready c.append-result.ensures.call.takes.later

pub returns-else-is_ok-clause-beside : goal.returns-else-is_ok-clause-beside
returns-else-is_ok-clause-beside g c start all log H of is =
    append_keeps g.J.Job.kind g.met.J.Job.laws g.met.D.Disk.only_now g.met.L.Disk.only_now start all log c.args.self.now _ is refl c.append-result.result (batch_of c.args.batch.now.first c.args.batch.now.records.items) H of
    c.append-result.ensures.acts c.append-result.ensures.state.moved (c.append-result.ensures.commits is.honest) c.append-result.ensures.call.honest.0 c.append-result.ensures.call.works.whole
    (on_not_ok _ c.append-result.result (sym c.is_ok.ensures.value ∙ c.if-is_ok.false)) c.requires.ready c.append-result.ensures.call.takes.later
