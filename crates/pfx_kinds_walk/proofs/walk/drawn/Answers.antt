use Rattle.std.proofs.Common.{arith}
use Rattle.pfx_kinds_walk.specs.Walks.{drawn}
use Rattle.pfx_kinds_walk.proofs.walk.drawn.Goals as goal

pub returns : goal.returns
unfolding drawn
returns c = omega arith
