use Rattle.pfx_machine_feasible.proofs.Endless.{row_keeps}
use Rattle.pfx_machine_feasible.proofs.laws.pf_keeps_endless.Goals as goal

pub returns : goal.returns
returns c = row_keeps
