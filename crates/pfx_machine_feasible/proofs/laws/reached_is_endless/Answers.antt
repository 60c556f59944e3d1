use Rattle.pfx_machine_feasible.proofs.Endless.{reached_endless}
use Rattle.pfx_machine_feasible.proofs.laws.reached_is_endless.Goals as goal

pub returns : goal.returns
returns c = reached_endless
