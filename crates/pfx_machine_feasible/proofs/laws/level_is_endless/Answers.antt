use Rattle.pfx_machine_feasible.proofs.Endless.{level_endless}
use Rattle.pfx_machine_feasible.proofs.laws.level_is_endless.Goals as goal

pub returns : goal.returns
returns c = level_endless
