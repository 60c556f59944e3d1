use Rattle.std.proofs.Common.{◌<◌, ◌≤◌, ◌∙◌, length, get_or, map, refl, subst, arith}
use Rattle.std.proofs.lemmas.List.{get_or-set_other, length-map, length-set, take_all}
use Rattle.pfx_log.proofs.Looks.{looks_none}
use Rattle.pfx_replay.specs.Stated.{plain_of}
use Rattle.pfx_replay_audit.specs.Audits.{AreAgreed}
use Rattle.pfx_replay_audit.specs.Watches.{Told}
use Rattle.pfx_replay_audit.proofs.Disks.{first_agrees, first_differs, first_unread, looks_all, next_agrees, next_differs, next_unread}
use Rattle.pfx_replay_audit.proofs.chain.fold_logs.Goals as goal

pub returns-in-Err : goal.returns-in-Err
returns-in-Err g c =
    let logs = c.args.logs.now in
    let view = g.L.Disk.view in
    first_unread view logs logs 0 c.index-logs-0.result c.fold_first.new.disk refl c.requires (λ d. refl) (λ k d. looks_none (view (get_or logs k d)))
    g.J.Job.kind g.met.J.Job.laws g.J.Units.unit (map plain_of c.args.marks.now) (Told g.J.Job.kind g.W.Watch.sees c.args.watch.now c.fold_first.new.watch) refl c.in-Err.fault (rw c.in-Err.is at c.fold_first.ensures)

pub returns-in-Differs : goal.returns-in-Differs
returns-in-Differs g c =
    let logs = c.args.logs.now in
    let view = g.L.Disk.view in
    first_differs view logs logs 0 c.index-logs-0.result c.fold_first.new.disk refl c.requires (λ d. refl) (λ k d. looks_none (view (get_or logs k d)))
    g.J.Job.kind g.met.J.Job.laws g.J.Units.unit (map plain_of c.args.marks.now) (Told g.J.Job.kind g.W.Watch.sees c.args.watch.now c.fold_first.new.watch) refl c.in-Differs.number c.in-Differs.what (rw c.in-Differs.is at (rw c.in-Ok.is at c.fold_first.ensures))

pub loop-index-init : goal.loop-index-init
loop-index-init g c =
    let logs = c.args.logs.now in
    let view = g.L.Disk.view in
    let e = c.index-logs-0.result in
    let v = c.fold_first.new.disk in
    record {
      long = length-set logs 0 v;
      looks = looks_all view logs logs 0 e v refl c.requires (λ d. refl) (λ k d. looks_none (view (get_or logs k d))) c.fold_first.ensures.looks;
      untouched = λ k d after. get_or-set_other logs 0 k v d (λ same. omega (arith, same, after));
      come = first_agrees view logs logs 0 e v refl c.requires (λ d. refl) (λ k d. looks_none (view (get_or logs k d)))
          g.J.Job.kind g.met.J.Job.laws g.J.Units.unit (map plain_of c.args.marks.now) (Told g.J.Job.kind g.W.Watch.sees c.args.watch.now c.fold_first.new.watch) refl c.in-Agrees.state c.in-Agrees.place (rw c.in-Agrees.is at (rw c.in-Ok.is at c.fold_first.ensures));
    }

pub returns-in-Err-fold_next : goal.returns-in-Err-fold_next
returns-in-Err-fold_next g c =
    let start = c.args.logs.now in
    let now = c.loop-index.logs in
    let h = c.loop-index.invariant in
    next_unread g.L.Disk.view start now c.loop-index.index c.index-logs-index.result c.fold_next.new.disk h.long (omega (arith, c.loop-index-test.true, c.loop-index.auto.logs, h.long, length-set start 0 c.fold_first.new.disk)) (λ d. h.untouched c.loop-index.index d (omega arith)) h.looks
    g.J.Job.kind g.met.J.Job.laws g.J.Units.unit (map plain_of c.args.marks.now) c.loop-index.state c.loop-index.place g.W.Watch.sees c.args.watch.now c.loop-index.watch c.fold_next.new.watch h.come c.in-Err-fold_next.fault (rw c.in-Err-fold_next.is at c.fold_next.ensures)

pub returns-in-Differs-end : goal.returns-in-Differs-end
returns-in-Differs-end g c =
    let start = c.args.logs.now in
    let now = c.loop-index.logs in
    let h = c.loop-index.invariant in
    next_differs g.L.Disk.view start now c.loop-index.index c.index-logs-index.result c.fold_next.new.disk h.long (omega (arith, c.loop-index-test.true, c.loop-index.auto.logs, h.long, length-set start 0 c.fold_first.new.disk)) (λ d. h.untouched c.loop-index.index d (omega arith)) h.looks
    g.J.Job.kind g.met.J.Job.laws g.J.Units.unit (map plain_of c.args.marks.now) c.loop-index.state c.loop-index.place g.W.Watch.sees c.args.watch.now c.loop-index.watch c.fold_next.new.watch h.come c.in-Differs-end.number c.in-Differs-end.what (rw c.in-Differs-end.is at (rw c.in-Ok-fold_next.is at c.fold_next.ensures))

pub loop-index-preserved : goal.loop-index-preserved
loop-index-preserved g c =
    let start = c.args.logs.now in
    let view = g.L.Disk.view in
    let now = c.loop-index.logs in
    let i = c.loop-index.index in
    let e = c.index-logs-index.result in
    let v = c.fold_next.new.disk in
    let h = c.loop-index.invariant in
    let within : i < length now = omega (arith, c.loop-index-test.true, c.loop-index.auto.logs, h.long, length-set start 0 c.fold_first.new.disk) in
    record {
      long = length-set now i v ∙ h.long;
      looks = looks_all view start now i e v h.long within (λ d. h.untouched i d (omega arith)) h.looks c.fold_next.ensures.looks;
      untouched = λ k d after. get_or-set_other now i k v d (λ same. omega (arith, same, after)) ∙ h.untouched k d (omega (arith, after));
      come = next_agrees view start now i e v h.long within (λ d. h.untouched i d (omega arith)) h.looks
          g.J.Job.kind g.met.J.Job.laws g.J.Units.unit (map plain_of c.args.marks.now) c.loop-index.state c.loop-index.place g.W.Watch.sees c.args.watch.now c.loop-index.watch c.fold_next.new.watch h.come c.in-Agrees-end.led c.in-Agrees-end.at (rw c.in-Agrees-end.is at (rw c.in-Ok-fold_next.is at c.fold_next.ensures));
    }

pub returns : goal.returns
returns g c =
    let K = g.J.Job.kind in
    let start = c.args.logs.now in
    let view = g.L.Disk.view in
    let h = c.loop-index.invariant in
    let images = map (λ d. (view d).contents) start in
    let past : length images ≤ c.loop-index.index = omega (arith, c.loop-index-test.false, length-map start (λ d. (view d).contents), length-set start 0 c.fold_first.new.disk) in
    record {
      looks = h.looks;
      device = tt;
      exact = λ honest. subst (λ all. (agreed : AreAgreed K g.J.Units.unit (map plain_of c.args.marks.now) all c.loop-index.state c.loop-index.place) × Told K g.W.Watch.sees c.args.watch.now c.loop-index.watch agreed.s agreed.read) (take_all c.loop-index.index images past) (h.come honest);
    }
