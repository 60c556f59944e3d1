use Rattle.pfx_machine_feasible.proofs.Levels.{at_period, passed_at_period}
use Rattle.pfx_machine_feasible.proofs.laws.level_at_each_period.Goals as goal

pub returns-clause-level : goal.returns-clause-level
returns-clause-level g c = at_period

pub returns-clause-passed : goal.returns-clause-passed
returns-clause-passed g c = passed_at_period g.J.Job.kind
