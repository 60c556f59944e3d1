use Rattle.pfx_crew.proofs.Rows.{no_task_twice}
use Rattle.pfx_crew.proofs.laws.rows_have_no_task_twice.Goals as goal

pub returns : goal.returns
returns g c K number slot row jobs = no_task_twice K number slot row jobs
