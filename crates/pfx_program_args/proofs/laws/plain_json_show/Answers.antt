use Rattle.pfx_program_args.proofs.PlainJson.{json_show_taken, json_show_asked}
use Rattle.pfx_program_args.proofs.laws.plain_json_show.Goals as goal

pub returns-clause-taken : goal.returns-clause-taken
returns-clause-taken c = json_show_taken c.args.program.now c.args.file.now c.requires.file

pub returns-clause-asked : goal.returns-clause-asked
returns-clause-asked c = json_show_asked c.args.program.now c.args.file.now c.requires.file
