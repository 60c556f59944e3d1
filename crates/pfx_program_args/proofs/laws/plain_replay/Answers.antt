use Rattle.pfx_program_args.proofs.PlainReplay.{plain_replay_taken, plain_replay_asked}
use Rattle.pfx_program_args.proofs.laws.plain_replay.Goals as goal

pub returns-clause-taken : goal.returns-clause-taken
returns-clause-taken c = plain_replay_taken c.args.program.now c.args.file.now c.requires.file

pub returns-clause-asked : goal.returns-clause-asked
returns-clause-asked c = plain_replay_asked c.args.program.now c.args.file.now c.requires.file
