use Rattle.pfx_program_args.proofs.PlainLog.{plain_log_taken, plain_log_asked}
use Rattle.pfx_program_args.proofs.laws.plain_log.Goals as goal

pub returns-clause-taken : goal.returns-clause-taken
returns-clause-taken c = plain_log_taken c.args.program.now c.args.file.now c.args.script.now c.args.log.now c.requires.file c.requires.script c.requires.log

pub returns-clause-asked : goal.returns-clause-asked
returns-clause-asked c = plain_log_asked c.args.program.now c.args.file.now c.args.script.now c.args.log.now c.requires.file c.requires.script c.requires.log
