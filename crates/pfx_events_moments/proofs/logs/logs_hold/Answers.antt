use Rattle.std.proofs.Common.{[], refl}
use Rattle.pfx_events_moments.specs.Logs.{events_of, world_of}
use Rattle.pfx_events_moments.proofs.Holding.{logs_hold}
use Rattle.pfx_events_moments.proofs.logs.logs_hold.Goals as goal

pub returns : goal.returns
returns g c = λ start image place entries made log n given left is.
    logs_hold g.J.Job.kind start c.runs_begin_at_files.ensures.means (c.runs_go_on.ensures.keeps start) (c.runs_go_on.ensures.further start)
    (world_of g.J.Job.kind start image place entries) log.gone log.rest
    (record { image = image; done = []; place = place; events = events_of entries; settled = log.settled; can = log.can; is = refl })
    log.coming log.goes_on n given left (log.told left is)
