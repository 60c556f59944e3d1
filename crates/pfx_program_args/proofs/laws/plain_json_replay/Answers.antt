use Rattle.pfx_program_args.proofs.PlainJsonMore.{json_replay_taken, json_replay_asked}
use Rattle.pfx_program_args.proofs.laws.plain_json_replay.Goals as goal

pub returns-clause-taken : goal.returns-clause-taken
returns-clause-taken c = json_replay_taken c.args.program.now c.args.file.now c.requires.file

pub returns-clause-asked : goal.returns-clause-asked
returns-clause-asked c = json_replay_asked c.args.program.now c.args.file.now c.requires.file
