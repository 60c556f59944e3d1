use Rattle.pfx_program_args.proofs.PlainDraw.{dash_draw_taken, dash_draw_asked}
use Rattle.pfx_program_args.proofs.laws.standard_draw.Goals as goal

pub returns-clause-taken : goal.returns-clause-taken
returns-clause-taken c = dash_draw_taken c.args.program.now c.args.slots.now c.requires.slots

pub returns-clause-asked : goal.returns-clause-asked
returns-clause-asked c = dash_draw_asked c.args.program.now c.args.slots.now c.requires.slots
