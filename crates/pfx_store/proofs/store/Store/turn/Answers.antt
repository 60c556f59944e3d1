use Rattle.std.proofs.Common.{sym, ap, subst}
use Rattle.pfx_disk.specs.Disk.{View}
use Rattle.pfx_store_format.specs.Format.{format}
use Rattle.pfx_store_file.specs.Holding.{KeepsAll}
use Rattle.pfx_store.proofs.Marking.{by_broken, covers_on, holds_after, whole_before}
use Rattle.pfx_store.proofs.Standings.{keeps_still}
use Rattle.pfx_store.proofs.store.Store.turn.Goals as goal

pub invariant_of-self : goal.invariant_of-self
invariant_of-self g c =
    holds_after _ _ c.self.inside.journal.file.broken c.turn.new.self.file.broken _ _ c.turn.result c.turn.ensures.call.works c.turn.ensures.call.roomy (λ is. ap (λ j. j.file.broken) (c.turn.ensures.call.broken is)) c.turn.ensures.call.honest.1 c.turn.ensures.stands.goes_on c.self.invariant

pub returns-clause-marks : goal.returns-clause-marks
returns-clause-marks g c = rw (← c.self.view_is) (λ honest start all marks covers.
    (let K = g.J.Job.kind in
    let j = c.self.inside.journal in
    let a : View = g.D.Disk.view j.file.disk in
    let keeps = by_broken j.file.broken (λ whole. c.turn.ensures.stands.keeps (c.self.invariant whole honest) start all (covers.leads whole))
    (λ broken. subst (λ i. KeepsAll (format K) start all all a (g.D.Disk.view i.file.disk)) (sym (c.turn.ensures.call.broken (c.turn.ensures.call.works.broken.1 broken))) (keeps_still K start all a)) in
    covers_on K start all marks a (g.D.Disk.view c.turn.new.self.file.disk) j.file.broken c.turn.new.self.file.broken j.state c.turn.new.self.state c.turn.ensures.stands.state
    (whole_before _ _ j.file.broken c.turn.new.self.file.broken c.turn.result c.turn.ensures.call.works (λ is. ap (λ i. i.file.broken) (c.turn.ensures.call.broken is))) c.turn.ensures.call.takes.later keeps covers))

pub returns-clause-keeps : goal.returns-clause-keeps
returns-clause-keeps g c = rw (← c.self.view_is) (λ honest start all replays.
    (let K = g.J.Job.kind in
    let j = c.self.inside.journal in
    let a : View = g.D.Disk.view j.file.disk in
    by_broken j.file.broken (λ whole. c.turn.ensures.stands.keeps (c.self.invariant whole honest) start all replays)
    (λ broken. subst (λ i. KeepsAll (format K) start all all a (g.D.Disk.view i.file.disk)) (sym (c.turn.ensures.call.broken (c.turn.ensures.call.works.broken.1 broken))) (keeps_still K start all a))))

pub returns-clause-call : goal.returns-clause-call
returns-clause-call g c = rw (← c.self.view_is) c.turn.ensures.call

pub returns-clause-state : goal.returns-clause-state
returns-clause-state g c = rw (← c.self.view_is) c.turn.ensures.stands.state

pub returns-clause-acts : goal.returns-clause-acts
returns-clause-acts g c = rw (← c.self.view_is) c.turn.ensures.acts

pub returns-clause-turns : goal.returns-clause-turns
returns-clause-turns g c = rw (← c.self.view_is) c.turn.ensures.turns
