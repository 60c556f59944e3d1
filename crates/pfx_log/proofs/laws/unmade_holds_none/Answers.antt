use Rattle.pfx_log.proofs.Chains.{unmade}
use Rattle.pfx_log.proofs.laws.unmade_holds_none.Goals as goal

pub returns : goal.returns
returns c image log = unmade image log
