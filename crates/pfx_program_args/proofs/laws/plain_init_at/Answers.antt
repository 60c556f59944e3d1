use Rattle.pfx_program_args.proofs.PlainInitAt.{plain_init_at_taken, plain_init_at_asked}
use Rattle.pfx_program_args.proofs.laws.plain_init_at.Goals as goal

pub returns-clause-taken : goal.returns-clause-taken
returns-clause-taken c = plain_init_at_taken c.args.program.now c.args.set.now c.args.file.now c.args.at.now c.requires.set c.requires.file c.requires.at

pub returns-clause-asked : goal.returns-clause-asked
returns-clause-asked c = plain_init_at_asked c.args.program.now c.args.set.now c.args.file.now c.args.at.now c.requires.set c.requires.file c.requires.at
