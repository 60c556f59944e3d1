use Rattle.std.proofs.Common.{◌≡◌, ◌++◌, ◌∷◌, [], sym, ap, subst}
use Rattle.std.specs.Prelude.{Some, OnOk}
use Rattle.pfx_disk.specs.Disk.{View}
use Rattle.pfx_store_format.specs.Format.{format}
use Rattle.pfx_store_format.specs.Frames.{state_after}
use Rattle.pfx_record.specs.Batches.{PlainBatch, batch_bytes, batch_of}
use Rattle.pfx_store_file.specs.Holding.{KeepsAll}
use Rattle.pfx_store.specs.Stores.{PlainStore}
use Rattle.pfx_store.specs.Working.{IsComing}
use Rattle.pfx_store.proofs.Appends.{batch_leads}
use Rattle.pfx_store.proofs.Marking.{by_broken, covers_appended, holds_after, on_ok_when}
use Rattle.pfx_store.proofs.Standings.{keeps_more, keeps_still, on_ok_then}
use Rattle.pfx_store.proofs.store.Store.take.Goals as goal

pub invariant_of-self : goal.invariant_of-self
invariant_of-self g c =
    holds_after _ _ c.self.inside.journal.file.broken c.append.new.self.file.broken _ _ c.append.result c.append.ensures.call.works c.append.ensures.call.roomy (λ is. ap (λ j. j.file.broken) (c.append.ensures.call.broken is)) c.append.ensures.call.honest.1 c.append.ensures.stands.goes_on c.self.invariant

pub returns-clause-marks : goal.returns-clause-marks
returns-clause-marks g c = rw (← c.self.view_is) (λ honest start all marks covers.
    (let K = g.J.Job.kind in
    let L = g.met.J.Job.laws in
    let j = c.self.inside.journal in
    let b : PlainBatch g.row.J.Denot = batch_of c.args.batch.now.first c.args.batch.now.records.items in
    let a : View = g.D.Disk.view j.file.disk in
    let t = c.append.new.self.state in
    let next = subst (λ (v : PlainStore g.row.D.Denot g.row.J.Denot). IsComing K v.state c.args.batch.now.workers c.args.batch.now.real c.args.batch.now.first b.records c.args.renewal) (sym c.self.view_is) c.requires.next in
    let led : OnOk c.append.result (state_after K j.state (batch_bytes K b) ≡ Some t) = on_ok_then c.append.result (batch_leads K L j.state c.args.batch.now.workers c.args.batch.now.real b t c.args.renewal c.args.batch.now.fits next) c.append.ensures.moves.state.moved in
    let keeps = by_broken j.file.broken (λ whole. (c.append.ensures.stands.commits (c.self.invariant whole honest)).keeps start all (covers.leads whole))
    (λ broken. subst (λ i. KeepsAll (format K) start all (all ++ batch_bytes K b ∷ []) a (g.D.Disk.view i.file.disk)) (sym (c.append.ensures.call.broken (c.append.ensures.call.works.broken.1 broken))) (keeps_more K start all (batch_bytes K b) a a (keeps_still K start all a))) in
    covers_appended K start all L (batch_bytes K b) marks a (g.D.Disk.view c.append.new.self.file.disk) j.file.broken c.append.new.self.file.broken j.state t c.append.ensures.call.takes.later keeps covers
    c.append.result c.append.ensures.call.works c.append.ensures.call.roomy (λ is. ap (λ i. i.file.broken) (c.append.ensures.call.broken is)) led c.append.ensures.moves.mark
    (λ whole. (c.append.ensures.stands.commits (c.self.invariant whole honest)).acknowledged start all (covers.leads whole))))

pub returns-clause-call : goal.returns-clause-call
returns-clause-call g c = rw (← c.self.view_is) c.append.ensures.call

pub returns-clause-state : goal.returns-clause-state
returns-clause-state g c = rw (← c.self.view_is) c.append.ensures.moves.state

pub returns-clause-commits : goal.returns-clause-commits
returns-clause-commits g c = rw (← c.self.view_is) (λ honest.
    (let K = g.J.Job.kind in
    let j = c.self.inside.journal in
    let b : PlainBatch g.row.J.Denot = batch_of c.args.batch.now.first c.args.batch.now.records.items in
    let a : View = g.D.Disk.view j.file.disk in
    record {
      keeps = λ start all replays. by_broken j.file.broken (λ whole. (c.append.ensures.stands.commits (c.self.invariant whole honest)).keeps start all replays)
          (λ broken. subst (λ i. KeepsAll (format K) start all (all ++ batch_bytes K b ∷ []) a (g.D.Disk.view i.file.disk)) (sym (c.append.ensures.call.broken (c.append.ensures.call.works.broken.1 broken))) (keeps_more K start all (batch_bytes K b) a a (keeps_still K start all a)));
      acknowledged = λ start all replays.
          on_ok_when _ _ _ j.file.broken c.append.new.self.file.broken c.append.result c.append.ensures.call.works
          (λ whole. (c.append.ensures.stands.commits (c.self.invariant whole honest)).acknowledged start all replays);
    }))

pub returns-clause-place : goal.returns-clause-place
returns-clause-place g c = rw (← c.self.view_is) c.append.ensures.moves.place

pub returns-clause-acts : goal.returns-clause-acts
returns-clause-acts g c = rw (← c.self.view_is) c.append.ensures.acts
