use Rattle.pfx_program_args.proofs.PlainHead.{plain_head_taken, plain_head_asked}
use Rattle.pfx_program_args.proofs.laws.plain_head.Goals as goal

pub returns-clause-taken : goal.returns-clause-taken
returns-clause-taken c = plain_head_taken c.args.program.now c.args.log.now c.requires.log

pub returns-clause-asked : goal.returns-clause-asked
returns-clause-asked c = plain_head_asked c.args.program.now c.args.log.now c.requires.log
