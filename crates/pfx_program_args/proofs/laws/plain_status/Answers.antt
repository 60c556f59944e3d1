use Rattle.pfx_program_args.proofs.PlainStatus.{plain_status_taken, plain_status_asked}
use Rattle.pfx_program_args.proofs.laws.plain_status.Goals as goal

pub returns-clause-taken : goal.returns-clause-taken
returns-clause-taken c = plain_status_taken c.args.program.now c.args.file.now c.requires.file

pub returns-clause-asked : goal.returns-clause-asked
returns-clause-asked c = plain_status_asked c.args.program.now c.args.file.now c.requires.file
