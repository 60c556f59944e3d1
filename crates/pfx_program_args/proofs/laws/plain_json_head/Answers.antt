use Rattle.pfx_program_args.proofs.PlainHead.{json_head_taken, json_head_asked}
use Rattle.pfx_program_args.proofs.laws.plain_json_head.Goals as goal

pub returns-clause-taken : goal.returns-clause-taken
returns-clause-taken c = json_head_taken c.args.program.now c.args.log.now c.requires.log

pub returns-clause-asked : goal.returns-clause-asked
returns-clause-asked c = json_head_asked c.args.program.now c.args.log.now c.requires.log
