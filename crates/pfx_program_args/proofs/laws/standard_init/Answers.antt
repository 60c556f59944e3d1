use Rattle.pfx_program_args.proofs.PlainInit.{dash_init_taken, dash_init_asked}
use Rattle.pfx_program_args.proofs.laws.standard_init.Goals as goal

pub returns-clause-taken : goal.returns-clause-taken
returns-clause-taken c = dash_init_taken c.args.program.now c.args.file.now c.requires.file

pub returns-clause-asked : goal.returns-clause-asked
returns-clause-asked c = dash_init_asked c.args.program.now c.args.file.now c.requires.file
