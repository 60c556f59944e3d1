use Rattle.pfx_program_args.proofs.PlainBatch.{plain_batch_taken, plain_batch_asked}
use Rattle.pfx_program_args.proofs.laws.plain_batch.Goals as goal

pub returns-clause-taken : goal.returns-clause-taken
returns-clause-taken c = plain_batch_taken c.args.program.now c.args.file.now c.args.script.now c.args.batch.now c.requires.file c.requires.script c.requires.batch

pub returns-clause-asked : goal.returns-clause-asked
returns-clause-asked c = plain_batch_asked c.args.program.now c.args.file.now c.args.script.now c.args.batch.now c.requires.file c.requires.script c.requires.batch
