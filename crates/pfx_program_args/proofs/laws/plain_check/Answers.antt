use Rattle.pfx_program_args.proofs.PlainCheck.{plain_check_taken, plain_check_asked}
use Rattle.pfx_program_args.proofs.laws.plain_check.Goals as goal

pub returns-clause-taken : goal.returns-clause-taken
returns-clause-taken c = plain_check_taken c.args.program.now c.args.set.now c.requires.set

pub returns-clause-asked : goal.returns-clause-asked
returns-clause-asked c = plain_check_asked c.args.program.now c.args.set.now c.requires.set
