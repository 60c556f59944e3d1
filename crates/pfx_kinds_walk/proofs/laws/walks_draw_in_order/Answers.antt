use Rattle.pfx_kinds_walk.proofs.Runs.{draws-in_order}
use Rattle.pfx_kinds_walk.proofs.laws.walks_draw_in_order.Goals as goal

pub returns : goal.returns
returns c = draws-in_order
