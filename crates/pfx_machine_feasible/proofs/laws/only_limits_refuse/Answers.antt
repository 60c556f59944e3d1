use Rattle.pfx_machine_feasible.proofs.Endless.{endless_fails, endless_chosen}
use Rattle.pfx_machine_feasible.proofs.laws.only_limits_refuse.Goals as goal

pub returns-clause-faults : goal.returns-clause-faults
returns-clause-faults c = endless_fails

pub returns-clause-row : goal.returns-clause-row
returns-clause-row c = endless_chosen
