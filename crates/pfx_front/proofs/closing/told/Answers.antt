use Rattle.std.proofs.Common.{◌≡◌, ◌⊎◌, ◌<◌, refl, sym, subst, ◌∙◌}
use Rattle.pfx_disk.specs.Disk.{IsSpent}
use Rattle.pfx_front.specs.Closing.{IsStored}
use Rattle.pfx_front.proofs.Telling.{no_log, told_held, told_stored}
use Rattle.pfx_disk_chronicle.specs.Chart.{noted_view}
use Rattle.pfx_front.proofs.closing.told.Goals as goal

pub returns-then-is_whole_for-clause-store : goal.returns-then-is_whole_for-clause-store
returns-then-is_whole_for-clause-store g c =
    let K = g.J.Job.kind in
    let start = g.B.Named.start in
    let F = g.B.Charted.failures in
    let r = c.args.book.now in
    let disk = g.D.Disk.view c.told-store.result.file.disk in
    let chart = noted_view g.B.Charted.held g.B.Charted.image g.B.Charted.clock F c.args.store.file.disk in
    subst (λ s. IsStored K start F r s disk) (sym c.told-store.ensures.state.0)
    (told_stored K start F r c.args.store.state chart disk c.requires.store
    (λ is. subst (λ d. (F < (g.D.Disk.view d).failures) ⊎ IsSpent (g.D.Disk.view d)) c.disk.ensures (c.if-backs.ensures refl (c.failure-failure.ensures ∙ is))))

pub returns-then-is_whole_for-clause-images : goal.returns-then-is_whole_for-clause-images
returns-then-is_whole_for-clause-images g c =
    let d = c.args.store.file.disk in
    told_held g.B.Charted.held g.B.Charted.image g.B.Charted.clock g.B.Charted.failures d.made d.late d.failed (g.D.Disk.view c.told-store.result.file.disk)
    c.told-store.ensures.along g.J.Job.kind g.B.Named.start g.B.Charted.clock c.args.book.now c.requires.images

pub returns-then-is_whole_for-clause-whole : goal.returns-then-is_whole_for-clause-whole
returns-then-is_whole_for-clause-whole g c = λ is. c.if-is_whole_for.ensures refl (c.failure-failure.ensures ∙ is)

pub returns-then-is_whole_for-clause-no_log : goal.returns-then-is_whole_for-clause-no_log
returns-then-is_whole_for-clause-no_log g c = λ is. no_log c.args.store (c.requires.whole.log is).0
