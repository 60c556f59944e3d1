use Rattle.pfx_machine_feasible.proofs.Endless.{start_succeeds}
use Rattle.pfx_machine_feasible.proofs.laws.pf_never_fails.Goals as goal

pub returns : goal.returns
returns c = start_succeeds
