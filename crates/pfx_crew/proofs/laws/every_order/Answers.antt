use Rattle.pfx_crew.proofs.Orders.{come_out}
use Rattle.pfx_crew.proofs.laws.every_order.Goals as goal

pub returns : goal.returns
returns g c asked results arrivals = come_out asked results arrivals
