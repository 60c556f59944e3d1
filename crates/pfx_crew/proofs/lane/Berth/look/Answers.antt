use Rattle.pfx_crew.proofs.Moves.{takes}
use Rattle.pfx_crew.proofs.lane.Berth.look.Goals as goal

pub try_recv_as-requires-clause-rule : goal.try_recv_as-requires-clause-rule
try_recv_as-requires-clause-rule g c = (takes _ _, λ items views b at. tt)
