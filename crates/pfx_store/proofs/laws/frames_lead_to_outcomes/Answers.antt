use Rattle.pfx_store.proofs.Grouping.{first_frames_there, first_frames_lead, frames_snoc}
use Rattle.pfx_store.proofs.laws.frames_lead_to_outcomes.Goals as goal

pub returns-clause-leads : goal.returns-clause-leads
returns-clause-leads g c s groups k state all small = first_frames_there g.J.Job.kind g.met.J.Job.laws s groups k state all small

pub returns-clause-only : goal.returns-clause-only
returns-clause-only g c s groups k t state all small run = first_frames_lead g.J.Job.kind g.met.J.Job.laws s groups k t state all small run

pub returns-clause-more : goal.returns-clause-more
returns-clause-more g c s groups group = frames_snoc g.J.Job.kind g.met.J.Job.laws s groups group
