use Rattle.pfx_store_version_one.proofs.Keeping.{format_laws}
use Rattle.pfx_store_version_one.proofs.laws.format_keeps_the_laws.Goals as goal

pub returns : goal.returns
returns g c = format_laws g.J.Job.kind g.met.J.Job.laws
