use Rattle.pfx_program_args.proofs.PlainEvery.{plain_every_taken, plain_every_asked}
use Rattle.pfx_program_args.proofs.laws.plain_every.Goals as goal

pub returns-clause-taken : goal.returns-clause-taken
returns-clause-taken c = plain_every_taken c.args.program.now c.args.log.now c.args.file.now c.args.every.now c.requires.log c.requires.file c.requires.every

pub returns-clause-asked : goal.returns-clause-asked
returns-clause-asked c = plain_every_asked c.args.program.now c.args.log.now c.args.file.now c.args.every.now c.requires.log c.requires.file c.requires.every
