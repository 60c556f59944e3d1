use Rattle.pfx_program_args.proofs.PlainAfter.{plain_after_taken, plain_after_asked}
use Rattle.pfx_program_args.proofs.laws.plain_after.Goals as goal

pub returns-clause-taken : goal.returns-clause-taken
returns-clause-taken c =
    plain_after_taken c.args.program.now c.args.file.now c.args.script.now c.args.log.now c.args.old.now
    c.requires.file c.requires.script c.requires.log c.requires.old

pub returns-clause-asked : goal.returns-clause-asked
returns-clause-asked c =
    plain_after_asked c.args.program.now c.args.file.now c.args.script.now c.args.log.now c.args.old.now
    c.requires.file c.requires.script c.requires.log c.requires.old
