use Rattle.pfx_program.proofs.PlanParts.{goes_on_from}
use Rattle.pfx_program.proofs.laws.plans_go_on.Goals as goal

pub returns : goal.returns
returns c = goes_on_from
