use Rattle.pfx_replay_totals.proofs.Whole.{one_set, short, whole}
use Rattle.pfx_replay_totals.proofs.laws.windows_are_whole.Goals as goal

pub returns : goal.returns
returns c = record { whole = whole; weights = one_set; short = short }
