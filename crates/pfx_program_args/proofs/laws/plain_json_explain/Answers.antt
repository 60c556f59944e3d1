use Rattle.pfx_program_args.proofs.PlainJsonMore.{json_explain_taken, json_explain_asked}
use Rattle.pfx_program_args.proofs.laws.plain_json_explain.Goals as goal

pub returns-clause-taken : goal.returns-clause-taken
returns-clause-taken c = json_explain_taken c.args.program.now c.args.fault.now c.requires.fault

pub returns-clause-asked : goal.returns-clause-asked
returns-clause-asked c = json_explain_asked c.args.program.now c.args.fault.now c.requires.fault
