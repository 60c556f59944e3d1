use Rattle.pfx_program_args.proofs.PlainRun.{plain_workers_taken, plain_workers_asked}
use Rattle.pfx_program_args.proofs.laws.plain_workers.Goals as goal

pub returns-clause-taken : goal.returns-clause-taken
returns-clause-taken c = plain_workers_taken c.args.program.now c.args.file.now c.args.script.now c.args.workers.now c.requires.file c.requires.script c.requires.workers

pub returns-clause-asked : goal.returns-clause-asked
returns-clause-asked c = plain_workers_asked c.args.program.now c.args.file.now c.args.script.now c.args.workers.now c.requires.file c.requires.script c.requires.workers
