use Rattle.std.proofs.Common.{◌≡◌, false, None, inl, inr, refl, sym, ap, ◌∙◌}
use Rattle.pfx_log_store.specs.Working.{failure_beside}
use Rattle.pfx_log_store.proofs.Keepings.{log_failed, log_whole, none_failed, store_whole}
use Rattle.pfx_log_store.proofs.Logging.{covers_still}
use Rattle.pfx_log_store.proofs.beside.LoggedStore.make_ready.Goals as goal

pub returns-in-Some-clause-stays : goal.returns-in-Some-clause-stays
returns-in-Some-clause-stays g c = λ none. absurd (let e = c.in-Some.ensures ∙ none in cc)

pub returns-in-Some-clause-still : goal.returns-in-Some-clause-still
returns-in-Some-clause-still g c = inr (sym c.in-Some.ensures)

pub returns-in-Some-clause-beside : goal.returns-in-Some-clause-beside
returns-in-Some-clause-beside g c start all log is =
    record { logged = tt; covered = covers_still g.J.Job.kind g.met.J.Job.laws g.met.D.Disk.only_now g.met.L.Disk.only_now start all log c.args.self.now c.args.self.now is refl refl }

pub returns-then-has_room-clause-ready : goal.returns-then-has_room-clause-ready
returns-then-has_room-clause-ready g c = inl (c.has_room.ensures.0 c.if-has_room.true)

pub returns-then-has_room-clause-whole : goal.returns-then-has_room-clause-whole
returns-then-has_room-clause-whole g c = (sym c.in_default.ensures, sym c.in_default.ensures)

pub returns-then-has_room-clause-beside : goal.returns-then-has_room-clause-beside
returns-then-has_room-clause-beside g c start all log is =
    record { logged = (log, is); covered = covers_still g.J.Job.kind g.met.J.Job.laws g.met.D.Disk.only_now g.met.L.Disk.only_now start all log c.args.self.now c.args.self.now is refl refl }

pub returns-in-Ok-clause-ready : goal.returns-in-Ok-clause-ready
returns-in-Ok-clause-ready g c = inr c.in-Ok.ensures.up

pub returns-in-Ok-clause-whole : goal.returns-in-Ok-clause-whole
returns-in-Ok-clause-whole g c =
    let old = c.args.self.now in
    let new = c.keep_up.new.self in
    let before : failure_beside old ≡ None = sym c.in_default.ensures in
    let log = log_whole old.store.file.broken old.log.broken old.stopped before in
    let store : new.store.file.broken ≡ false = ap (λ s. s.file.broken) c.in-Ok.ensures.store ∙ store_whole old.store.file.broken old.log.broken old.stopped before in
    (before, none_failed new.store.file.broken new.log.broken new.stopped store (c.in-Ok.ensures.goes_on.0 ∙ log.0) (c.in-Ok.ensures.goes_on.1 ∙ log.1))

pub returns-in-Ok-clause-beside : goal.returns-in-Ok-clause-beside
returns-in-Ok-clause-beside g c start all log is = (let k = c.in-Ok.ensures.beside start all log is in record { logged = k.logged; covered = k.covered })

pub returns-in-Err-clause-fails : goal.returns-in-Err-clause-fails
returns-in-Err-clause-fails g c =
    let old = c.args.self.now in
    let new = c.keep_up.new.self in
    let before : failure_beside old ≡ None = sym c.in_default.ensures in
    let store : new.store.file.broken ≡ false = ap (λ s. s.file.broken) c.in-Err.ensures.store ∙ store_whole old.store.file.broken old.log.broken old.stopped before in
    log_failed new.store.file.broken new.log.broken new.stopped store c.in-Err.ensures.stopped

pub returns-in-Err-clause-still : goal.returns-in-Err-clause-still
returns-in-Err-clause-still g c = inl (sym c.in_default.ensures)

pub returns-in-Err-clause-beside : goal.returns-in-Err-clause-beside
returns-in-Err-clause-beside g c start all log is = (let k = c.in-Err.ensures.beside start all log is in record { logged = tt; covered = k.covered })
