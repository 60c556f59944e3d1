use Rattle.pfx_machine_feasible.proofs.Living.{lives, first_lives}
use Rattle.pfx_machine_feasible.proofs.laws.lives.Goals as goal

pub returns-clause-level : goal.returns-clause-level
returns-clause-level g c = lives g.J.Job.kind g.met.J.Job.laws

pub returns-clause-first : goal.returns-clause-first
returns-clause-first g c = first_lives g.J.Job.kind g.met.J.Job.laws
