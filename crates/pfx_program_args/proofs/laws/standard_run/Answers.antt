use Rattle.pfx_program_args.proofs.PlainRun.{dash_run_taken, dash_run_asked}
use Rattle.pfx_program_args.proofs.laws.standard_run.Goals as goal

pub returns-clause-taken : goal.returns-clause-taken
returns-clause-taken c = dash_run_taken c.args.program.now c.args.file.now c.requires.file

pub returns-clause-asked : goal.returns-clause-asked
returns-clause-asked c = dash_run_asked c.args.program.now c.args.file.now c.requires.file
