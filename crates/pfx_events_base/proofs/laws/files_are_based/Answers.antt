use Rattle.pfx_events_base.proofs.Bounded.{file_based}
use Rattle.pfx_events_base.proofs.laws.files_are_based.Goals as goal

pub returns : goal.returns
returns g c K laws f s image is = file_based K laws f s image is
