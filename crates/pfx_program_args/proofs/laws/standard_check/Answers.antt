use Rattle.pfx_program_args.proofs.PlainCheck.{dash_check_taken, dash_check_asked}
use Rattle.pfx_program_args.proofs.laws.standard_check.Goals as goal

pub returns-clause-taken : goal.returns-clause-taken
returns-clause-taken c = dash_check_taken c.args.program.now

pub returns-clause-asked : goal.returns-clause-asked
returns-clause-asked c = dash_check_asked c.args.program.now
