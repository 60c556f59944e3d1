use Rattle.pfx_machine_feasible.proofs.Living.{life_rows, life-snoc}
use Rattle.pfx_machine_feasible.proofs.laws.lives_go_on.Goals as goal

pub returns-clause-more : goal.returns-clause-more
returns-clause-more g c = life-snoc g.J.Job.kind

pub returns-clause-rows : goal.returns-clause-rows
returns-clause-rows g c = life_rows
