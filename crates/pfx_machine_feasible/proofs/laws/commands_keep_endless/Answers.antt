use Rattle.pfx_machine_feasible.proofs.Rows.{ledger_goes_on}
use Rattle.pfx_machine_feasible.proofs.Serving.{served_behind, endless_behind}
use Rattle.pfx_machine_feasible.proofs.laws.commands_keep_endless.Goals as goal

pub returns-clause-endless : goal.returns-clause-endless
returns-clause-endless g c = λ B ledger endless H all. endless_behind g.J.Job.kind g.met.J.Job.laws B H ledger endless all

pub returns-clause-served : goal.returns-clause-served
returns-clause-served g c = λ B ledger endless H all. served_behind g.J.Job.kind g.met.J.Job.laws B H (ledger_goes_on B.ledger ledger endless) all
