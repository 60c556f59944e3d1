use Rattle.pfx_program_args.proofs.PlainPlan.{dash_plan_taken, dash_plan_asked}
use Rattle.pfx_program_args.proofs.laws.standard_plan.Goals as goal

pub returns-clause-taken : goal.returns-clause-taken
returns-clause-taken c = dash_plan_taken c.args.program.now c.args.slots.now c.requires.slots

pub returns-clause-asked : goal.returns-clause-asked
returns-clause-asked c = dash_plan_asked c.args.program.now c.args.slots.now c.requires.slots
