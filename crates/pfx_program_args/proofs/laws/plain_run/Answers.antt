use Rattle.pfx_program_args.proofs.PlainRun.{plain_run_taken, plain_run_asked}
use Rattle.pfx_program_args.proofs.laws.plain_run.Goals as goal

pub returns-clause-taken : goal.returns-clause-taken
returns-clause-taken c = plain_run_taken c.args.program.now c.args.file.now c.args.script.now c.requires.file c.requires.script

pub returns-clause-asked : goal.returns-clause-asked
returns-clause-asked c = plain_run_asked c.args.program.now c.args.file.now c.args.script.now c.requires.file c.requires.script
