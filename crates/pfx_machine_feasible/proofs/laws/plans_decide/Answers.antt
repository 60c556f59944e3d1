use Rattle.pfx_machine_feasible.proofs.Plans.{endless_by_plan, endless_succeeds}
use Rattle.pfx_machine_feasible.proofs.laws.plans_decide.Goals as goal

pub returns : goal.returns
returns c = λ g ledger slots whole. (endless_by_plan g ledger slots whole, λ endless. endless_succeeds g ledger endless slots)
