use Rattle.pfx_program_args.proofs.PlainDraw.{plain_draw_taken, plain_draw_asked}
use Rattle.pfx_program_args.proofs.laws.plain_draw.Goals as goal

pub returns-clause-taken : goal.returns-clause-taken
returns-clause-taken c = plain_draw_taken c.args.program.now c.args.set.now c.args.slots.now c.requires.set c.requires.slots

pub returns-clause-asked : goal.returns-clause-asked
returns-clause-asked c = plain_draw_asked c.args.program.now c.args.set.now c.args.slots.now c.requires.set c.requires.slots
