use Rattle.pfx_program_args.proofs.PlainJsonMore.{json_check_taken, json_check_asked}
use Rattle.pfx_program_args.proofs.laws.plain_json_check.Goals as goal

pub returns-clause-taken : goal.returns-clause-taken
returns-clause-taken c = json_check_taken c.args.program.now c.args.set.now c.requires.set

pub returns-clause-asked : goal.returns-clause-asked
returns-clause-asked c = json_check_asked c.args.program.now c.args.set.now c.requires.set
