use Rattle.pfx_symbols.proofs.RankKeyOrder.{keys_tell}
use Rattle.pfx_symbols.proofs.laws.keys_tell.Goals as goal

pub returns : goal.returns
returns c = keys_tell
