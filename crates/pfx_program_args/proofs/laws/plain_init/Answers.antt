use Rattle.pfx_program_args.proofs.PlainInit.{plain_init_taken, plain_init_asked}
use Rattle.pfx_program_args.proofs.laws.plain_init.Goals as goal

pub returns-clause-taken : goal.returns-clause-taken
returns-clause-taken c = plain_init_taken c.args.program.now c.args.set.now c.args.file.now c.requires.set c.requires.file

pub returns-clause-asked : goal.returns-clause-asked
returns-clause-asked c = plain_init_asked c.args.program.now c.args.set.now c.args.file.now c.requires.set c.requires.file
