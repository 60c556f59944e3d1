use Rattle.std.proofs.Common.{inl}
use Rattle.pfx_events_moments.proofs.Holding.{holds_in}
use Rattle.pfx_events_moments.proofs.moments.survives.Goals as goal

pub returns : goal.returns
returns g c = λ start w told held n given image left.
    holds_in g.J.Job.kind start c.runs_begin_at_files.ensures.means (c.runs_go_on.ensures.keeps start) (c.runs_go_on.ensures.further start) w told.reached n given image
    (inl (told.there.after.images image (held, left)))
