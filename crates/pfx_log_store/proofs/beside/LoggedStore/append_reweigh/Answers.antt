use Rattle.std.proofs.Common.{⊎_elim, inl, inr, length, sym, ap, ◌∙◌, refl, arith, length-append}
use Rattle.pfx_record.specs.Batches.{batch_bytes, batch_of}
use Rattle.pfx_log_store.proofs.Appending.{append_keeps}
use Rattle.pfx_log_store.proofs.Logging.{on_not_ok, on_ok_all}
use Rattle.pfx_log_store.proofs.Taken.{fits_more, of_ok, was_whole}
use Rattle.pfx_log_store.proofs.beside.LoggedStore.append_reweigh.Goals as goal

pub returns-then-is_ok-clause-beside : goal.returns-then-is_ok-clause-beside
returns-then-is_ok-clause-beside g c start all log H of is =
    append_keeps g.J.Job.kind g.met.J.Job.laws g.met.D.Disk.only_now g.met.L.Disk.only_now start all log c.args.self.now _ is refl c.append_reweigh-result.result (batch_of c.args.batch.now.first c.args.batch.now.records.items) H of
    c.append_reweigh-result.ensures.acts c.append_reweigh-result.ensures.state.moved (c.append_reweigh-result.ensures.commits is.honest) c.append_reweigh-result.ensures.call.honest.0 c.append_reweigh-result.ensures.call.works.whole
    (on_ok_all c.append_reweigh-result.result c.write_batch.ensures.spelled) c.requires.ready c.append_reweigh-result.ensures.call.takes.later

pub returns-else-is_ok-clause-beside : goal.returns-else-is_ok-clause-beside
returns-else-is_ok-clause-beside g c start all log H of is =
    append_keeps g.J.Job.kind g.met.J.Job.laws g.met.D.Disk.only_now g.met.L.Disk.only_now start all log c.args.self.now _ is refl c.append_reweigh-result.result (batch_of c.args.batch.now.first c.args.batch.now.records.items) H of
    c.append_reweigh-result.ensures.acts c.append_reweigh-result.ensures.state.moved (c.append_reweigh-result.ensures.commits is.honest) c.append_reweigh-result.ensures.call.honest.0 c.append_reweigh-result.ensures.call.works.whole
    (on_not_ok _ c.append_reweigh-result.result (sym c.is_ok.ensures.value ∙ c.if-is_ok.false)) c.requires.ready c.append_reweigh-result.ensures.call.takes.later

pub invariant_of-self : goal.invariant_of-self
invariant_of-self g c =
    let old = c.args.self.now in
    let new = c.append_reweigh-result.new.self in
    let r = c.append_reweigh-result.result in
    let e = c.append_reweigh-result.ensures in
    let frame = batch_bytes g.J.Job.kind (batch_of c.args.batch.now.first c.args.batch.now.records.items) in
    let well = sym c.is_ok.ensures.value ∙ c.if-is_ok.true in
    let segment = ap (λ s. s.segment) e.call.parts in
    let long = ap length c.write_batch.ensures.spelled ∙ length-append old.copy.items frame in
    let ready = ⊎_elim inl (λ up. inr (ap length up.copied)) c.requires.ready in
    let fits = fits_more (length old.copy.items) (length frame) old.store.file.places new.file.places ready (of_ok r well e.place) e.call.parts (old.fits (was_whole r old.store.file.broken well e.call.works.broken)) in
    let before = new.file.places.before in
    record {
      fits = λ whole. omega (arith, long, fits);
      short = omega (arith, long, fits, before);
      room = omega (arith, segment, c.write_batch.ensures.room, old.room);
      block_room = omega (arith, segment, old.block_room);
    }
