use Rattle.std.proofs.Common.{◌≡◌, [], ◌∷◌, ◌++◌, length, None, Ok, Err, map, inl, inr, refl, sym, ap, subst, ◌∙◌}
use Rattle.pfx_fault.specs.declared.fields.Cause.TheVariants as cause
use Rattle.pfx_record.specs.Batches.{batch_bytes, batch_of}
use Rattle.pfx_record.specs.Records.{plain}
use Rattle.pfx_store.specs.Keepers.{Keeps}
use Rattle.pfx_log.specs.Logs.{Log}
use Rattle.pfx_store.specs.Groups.{frame_of}
use Rattle.pfx_log_store.specs.Working.{Covers, IsBatchOf, IsLogged, failure_beside}
use Rattle.pfx_log_store.proofs.Keepings.{batch_failed, batch_kept, batch_left, log_whole, no_memory, none_failed, store_failed, store_whole}
use Rattle.pfx_log_store.proofs.keeper.LoggedStoreBatchKeeper.keep.Goals as goal

pub returns-in-Err-clause-kept : goal.returns-in-Err-clause-kept
returns-in-Err-clause-kept g c =
    let view = g.D.Disk.view in
    let K = g.J.Job.kind in
    let frame = batch_bytes K (batch_of c.args.batch.now.first c.args.batch.now.records.items) in
    let old = c.args.self.now in
    let new = c.make_ready.new.self in
    let h = c.in-Err.ensures in
    subst (λ s. Keeps view K (map plain c.args.batch.now.records.items) frame old.store s (failure_beside old) (failure_beside new) (Err c.in-Err.cause)) (sym h.store)
    (batch_left view K (map plain c.args.batch.now.records.items) frame old.store (failure_beside old) (failure_beside new) c.in-Err.cause h.fails h.stays h.still (no_memory new.store.file.broken new.log.broken new.stopped))

pub returns-in-Ok-append-clause-kept : goal.returns-in-Ok-append-clause-kept
returns-in-Ok-append-clause-kept g c =
    let view = g.D.Disk.view in
    let K = g.J.Job.kind in
    let frame = batch_bytes K (batch_of c.args.batch.now.first c.args.batch.now.records.items) in
    let old = c.args.self.now in
    let mid = c.make_ready.new.self in
    let new = c.append.new.self in
    let h = c.in-Ok.ensures in
    let a = c.in-Ok-append.ensures in
    let log = log_whole mid.store.file.broken mid.log.broken mid.stopped h.whole.1 in
    let after : failure_beside new ≡ None = none_failed new.store.file.broken new.log.broken new.stopped (a.call.works.whole refl) (ap (λ f. f.broken) a.log.0 ∙ log.0) (a.log.1 ∙ log.1) in
    subst (λ s. Keeps view K (map plain c.args.batch.now.records.items) frame s new.store (failure_beside old) (failure_beside new) (Ok c.in-Ok-append.mark)) h.store
    (batch_kept view K (map plain c.args.batch.now.records.items) frame mid.store new.store (failure_beside old) (failure_beside new) c.in-Ok-append.mark a.call a.state a.place a.mark a.marks a.commits h.whole.0 after)

pub returns-in-Err-append-clause-kept : goal.returns-in-Err-append-clause-kept
returns-in-Err-append-clause-kept g c =
    let view = g.D.Disk.view in
    let K = g.J.Job.kind in
    let frame = batch_bytes K (batch_of c.args.batch.now.first c.args.batch.now.records.items) in
    let old = c.args.self.now in
    let mid = c.make_ready.new.self in
    let new = c.append.new.self in
    let h = c.in-Ok.ensures in
    let a = c.in-Err-append.ensures in
    subst (λ s. Keeps view K (map plain c.args.batch.now.records.items) frame s new.store (failure_beside old) (failure_beside new) (Err cause.Device)) h.store
    (batch_failed view K (map plain c.args.batch.now.records.items) frame mid.store new.store (failure_beside old) (failure_beside new) _ a.call a.state a.marks a.commits h.whole.0
    (store_whole mid.store.file.broken mid.log.broken mid.stopped h.whole.1) (store_failed new.store.file.broken new.log.broken new.stopped))

pub append-requires-clause-next : goal.append-requires-clause-next
append-requires-clause-next g c = rw c.in-Ok.ensures.store c.requires.next

pub returns-in-Err-clause-beside : goal.returns-in-Err-clause-beside
returns-in-Err-clause-beside g c = λ start all held H is logged. record {
  middle = c.make_ready.new.self;
  log_alone = c.in-Err.ensures.store;
  brought_up = (c.in-Err.ensures.beside start all held logged).covered;
  kept = inl (tt, refl);
}

pub returns-in-Ok-append-clause-beside : goal.returns-in-Ok-append-clause-beside
returns-in-Ok-append-clause-beside g c = λ start all held H is logged.
    let K = g.J.Job.kind in
    let mid = c.make_ready.new.self in
    let new = c.append.new.self in
    let h = c.in-Ok.ensures in
    let a = c.in-Ok-append.ensures in
    let up = h.beside start all held logged in
    let at = ap (λ b. b.state) h.store in
    let more = a.beside start all up.logged.0 H (subst (λ s. IsBatchOf K s H (batch_of c.args.batch.now.first c.args.batch.now.records.items)) (sym at) is) up.logged.1 in
    record {
      middle = mid;
      log_alone = h.store;
      brought_up = up.covered;
      kept = inr (
        a.log.0,
        record {
          logged = subst (λ s. (log : Log) × IsLogged K start (all ++ frame_of K s H ∷ []) log new) at more.logged;
          covered = subst (λ s. Covers K start (all ++ frame_of K s H ∷ []) (length all) mid new) at more.covered;
        },
      );
    }

pub returns-in-Err-append-clause-beside : goal.returns-in-Err-append-clause-beside
returns-in-Err-append-clause-beside g c = λ start all held H is logged.
    let K = g.J.Job.kind in
    let mid = c.make_ready.new.self in
    let new = c.append.new.self in
    let h = c.in-Ok.ensures in
    let a = c.in-Err-append.ensures in
    let up = h.beside start all held logged in
    let at = ap (λ b. b.state) h.store in
    let more = a.beside start all up.logged.0 H (subst (λ s. IsBatchOf K s H (batch_of c.args.batch.now.first c.args.batch.now.records.items)) (sym at) is) up.logged.1 in
    record {
      middle = mid;
      log_alone = h.store;
      brought_up = up.covered;
      kept = inr (
        a.log.0,
        record {
          logged = tt;
          covered = subst (λ s. Covers K start (all ++ frame_of K s H ∷ []) (length all) mid new) at more.covered;
        },
      );
    }
