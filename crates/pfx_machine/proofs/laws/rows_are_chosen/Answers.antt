use Rattle.pfx_machine.proofs.RowsLemmas.{rows_chosen}
use Rattle.pfx_machine.proofs.laws.rows_are_chosen.Goals as goal

pub returns : goal.returns
returns g c = rows_chosen g.J.Job.kind
