use Rattle.pfx_log.proofs.Chains.{one_held}
use Rattle.pfx_log.proofs.laws.one_log.Goals as goal

pub returns : goal.returns
returns c image one other = one_held image one other
