use Rattle.pfx_replay_totals.proofs.Whole.{got_split}
use Rattle.pfx_replay_totals.proofs.laws.what_is_got_is_used_or_wasted.Goals as goal

pub returns : goal.returns
returns c = got_split
