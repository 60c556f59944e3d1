use Rattle.pfx_machine_feasible.proofs.Endless.{start_endless}
use Rattle.pfx_machine_feasible.proofs.laws.start_is_endless.Goals as goal

pub returns : goal.returns
returns c = start_endless
