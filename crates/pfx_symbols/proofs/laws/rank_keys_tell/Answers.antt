use Rattle.pfx_symbols.proofs.RankKeyOrder.{rank_keys_tell}
use Rattle.pfx_symbols.proofs.laws.rank_keys_tell.Goals as goal

pub returns : goal.returns
returns c = rank_keys_tell
