use Rattle.std.proofs.Common.{inl, ⊎_elim, ◌+◌, length, refl, arith}
use Rattle.std.proofs.lemmas.List.{length-map}
use Rattle.pfx_disk_chronicle.specs.Chart.{act_of}
use Rattle.pfx_events_world.specs.Events.{Take}
use Rattle.pfx_events_moments.proofs.Holding.{holds_in, holds_after, since_made, now_made}
use Rattle.pfx_events_moments.proofs.moments.append.Goals as goal

pub returns-clause-moments : goal.returns-clause-moments
returns-clause-moments g c start w n may told carries held k low high m given image left =
    let K = g.J.Job.kind in
    let H = g.B.Charted.held in
    let I = g.B.Charted.image in
    let C = g.B.Charted.clock in
    let F = g.B.Charted.failures in
    let old = c.args.store.now.file.disk in
    let new = c.append.new.store.file.disk in
    let means = c.runs_begin_at_files.ensures.means in
    let keeps = c.runs_go_on.ensures.keeps start in
    let further = c.runs_go_on.ensures.further start in
    let count = length-map old.made act_of in
    ⊎_elim
    (λ before. holds_in K start means keeps further w told.reached m given image (inl (told.there.after.images image (now_made H I C F old.made old.late old.failed image before))))
    (λ d. holds_after K start means keeps further w (Take n) d.0 refl refl told.reached d.1 m given image d.2)
    (c.append.ensures.within start w n may told carries (C + length old.made) image (omega (arith, count)) (since_made H I C F new.made new.late new.failed (length old.made) k image held low high left))
