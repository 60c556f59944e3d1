use Rattle.pfx_store_version_one.proofs.Leading.{leads_still}
use Rattle.pfx_store_version_one.proofs.laws.frames_lead_there_still.Goals as goal

pub returns : goal.returns
returns g c s t frame is = leads_still g.J.Job.kind g.met.J.Job.laws s frame t is
