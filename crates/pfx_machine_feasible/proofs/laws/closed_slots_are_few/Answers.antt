use Rattle.pfx_machine_feasible.proofs.Columns.{few}
use Rattle.pfx_machine_feasible.proofs.laws.closed_slots_are_few.Goals as goal

pub returns : goal.returns
returns c = λ e p col S end less level closed. few e p less col S end closed level
