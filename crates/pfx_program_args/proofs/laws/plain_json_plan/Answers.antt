use Rattle.pfx_program_args.proofs.PlainJson.{json_plan_taken, json_plan_asked}
use Rattle.pfx_program_args.proofs.laws.plain_json_plan.Goals as goal

pub returns-clause-taken : goal.returns-clause-taken
returns-clause-taken c = json_plan_taken c.args.program.now c.args.set.now c.args.slots.now c.requires.set c.requires.slots

pub returns-clause-asked : goal.returns-clause-asked
returns-clause-asked c = json_plan_asked c.args.program.now c.args.set.now c.args.slots.now c.requires.set c.requires.slots
