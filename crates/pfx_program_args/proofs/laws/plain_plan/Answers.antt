use Rattle.pfx_program_args.proofs.PlainPlan.{plain_plan_taken, plain_plan_asked}
use Rattle.pfx_program_args.proofs.laws.plain_plan.Goals as goal

pub returns-clause-taken : goal.returns-clause-taken
returns-clause-taken c = plain_plan_taken c.args.program.now c.args.set.now c.args.slots.now c.requires.set c.requires.slots

pub returns-clause-asked : goal.returns-clause-asked
returns-clause-asked c = plain_plan_asked c.args.program.now c.args.set.now c.args.slots.now c.requires.set c.requires.slots
