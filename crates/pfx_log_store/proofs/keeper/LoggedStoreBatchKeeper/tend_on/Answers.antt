use Rattle.std.proofs.Common.{◌≡◌, None, refl, sym, ap, ◌∙◌}
use Rattle.pfx_log_store.specs.Working.{failure_beside}
use Rattle.pfx_log_store.proofs.Keepings.{log_whole, no_memory, none_failed, step_failed, step_left, step_taken, store_failed, store_whole}
use Rattle.pfx_log_store.proofs.Logging.{covers_still}
use Rattle.pfx_log_store.proofs.keeper.LoggedStoreBatchKeeper.tend_on.Goals as goal

pub returns-in-Some-clause-kept : goal.returns-in-Some-clause-kept
returns-in-Some-clause-kept g c =
    let old = c.args.self.now in
    step_left g.D.Disk.view g.J.Job.kind old.store (failure_beside old) c.in-Some.cause (sym c.in-Some.ensures) (no_memory old.store.file.broken old.log.broken old.stopped)

pub returns-in-Ok-clause-kept : goal.returns-in-Ok-clause-kept
returns-in-Ok-clause-kept g c =
    let old = c.args.self.now in
    let new = c.tend.new.self in
    let a = c.in-Ok.ensures in
    let before : failure_beside old ≡ None = sym c.in_default.ensures in
    let log = log_whole old.store.file.broken old.log.broken old.stopped before in
    let after : failure_beside new ≡ None = none_failed new.store.file.broken new.log.broken new.stopped (a.call.works.whole refl) (ap (λ f. f.broken) a.log.0 ∙ log.0) (a.log.2 ∙ log.1) in
    step_taken g.D.Disk.view g.J.Job.kind old.store new.store (failure_beside old) (failure_beside new) c.in-Ok.tended a.call a.state a.tends a.marks a.keeps before after

pub returns-in-Err-clause-kept : goal.returns-in-Err-clause-kept
returns-in-Err-clause-kept g c =
    let old = c.args.self.now in
    let new = c.tend.new.self in
    let a = c.in-Err.ensures in
    let before : failure_beside old ≡ None = sym c.in_default.ensures in
    step_failed g.D.Disk.view g.J.Job.kind old.store new.store (failure_beside old) (failure_beside new) _ a.call a.state a.tends a.marks a.keeps before
    (store_whole old.store.file.broken old.log.broken old.stopped before) (store_failed new.store.file.broken new.log.broken new.stopped)

pub returns-in-Some-clause-beside : goal.returns-in-Some-clause-beside
returns-in-Some-clause-beside g c start all log is =
    record { logged = tt; covered = covers_still g.J.Job.kind g.met.J.Job.laws g.met.D.Disk.only_now g.met.L.Disk.only_now start all log c.args.self.now c.args.self.now is refl refl }

pub returns-in-Ok-clause-beside : goal.returns-in-Ok-clause-beside
returns-in-Ok-clause-beside g c start all log is = (let k = c.in-Ok.ensures.beside start all log is in record { logged = k.logged; covered = k.covered })

pub returns-in-Err-clause-beside : goal.returns-in-Err-clause-beside
returns-in-Err-clause-beside g c start all log is = (let k = c.in-Err.ensures.beside start all log is in record { logged = tt; covered = k.covered })
