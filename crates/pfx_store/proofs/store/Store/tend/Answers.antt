use Rattle.std.proofs.Common.{sym, ap, subst}
use Rattle.pfx_disk.specs.Disk.{View}
use Rattle.pfx_store_format.specs.Format.{format}
use Rattle.pfx_store_file.specs.Holding.{KeepsAll}
use Rattle.pfx_store.proofs.Marking.{by_broken, covers_on, holds_after, whole_before}
use Rattle.pfx_store.proofs.Standings.{keeps_still}
use Rattle.pfx_store.proofs.store.Store.tend.Goals as goal

pub invariant_of-self : goal.invariant_of-self
invariant_of-self g c =
    holds_after _ _ c.self.inside.journal.file.broken c.tend.new.self.file.broken _ _ c.tend.result c.tend.ensures.call.works c.tend.ensures.call.roomy (λ is. ap (λ j. j.file.broken) (c.tend.ensures.call.broken is)) c.tend.ensures.call.honest.1 c.tend.ensures.stands.goes_on c.self.invariant

pub returns-clause-marks : goal.returns-clause-marks
returns-clause-marks g c = rw (← c.self.view_is) (λ honest start all marks covers.
    (let K = g.J.Job.kind in
    let j = c.self.inside.journal in
    let a : View = g.D.Disk.view j.file.disk in
    let keeps = by_broken j.file.broken (λ whole. c.tend.ensures.stands.keeps (c.self.invariant whole honest) start all (covers.leads whole))
    (λ broken. subst (λ i. KeepsAll (format K) start all all a (g.D.Disk.view i.file.disk)) (sym (c.tend.ensures.call.broken (c.tend.ensures.call.works.broken.1 broken))) (keeps_still K start all a)) in
    covers_on K start all marks a (g.D.Disk.view c.tend.new.self.file.disk) j.file.broken c.tend.new.self.file.broken j.state c.tend.new.self.state c.tend.ensures.stands.state
    (whole_before _ _ j.file.broken c.tend.new.self.file.broken c.tend.result c.tend.ensures.call.works (λ is. ap (λ i. i.file.broken) (c.tend.ensures.call.broken is))) c.tend.ensures.call.takes.later keeps covers))

pub returns-clause-keeps : goal.returns-clause-keeps
returns-clause-keeps g c = rw (← c.self.view_is) (λ honest start all replays.
    (let K = g.J.Job.kind in
    let j = c.self.inside.journal in
    let a : View = g.D.Disk.view j.file.disk in
    by_broken j.file.broken (λ whole. c.tend.ensures.stands.keeps (c.self.invariant whole honest) start all replays)
    (λ broken. subst (λ i. KeepsAll (format K) start all all a (g.D.Disk.view i.file.disk)) (sym (c.tend.ensures.call.broken (c.tend.ensures.call.works.broken.1 broken))) (keeps_still K start all a))))

pub returns-clause-call : goal.returns-clause-call
returns-clause-call g c = rw (← c.self.view_is) c.tend.ensures.call

pub returns-clause-state : goal.returns-clause-state
returns-clause-state g c = rw (← c.self.view_is) c.tend.ensures.stands.state

pub returns-clause-acts : goal.returns-clause-acts
returns-clause-acts g c = rw (← c.self.view_is) c.tend.ensures.acts

pub returns-clause-tends : goal.returns-clause-tends
returns-clause-tends g c = rw (← c.self.view_is) c.tend.ensures.tends
