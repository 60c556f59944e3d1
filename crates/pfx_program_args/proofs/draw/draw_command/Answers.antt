use Rattle.pfx_program_args.proofs.draw.draw_command.Goals as goal

pub returns : goal.returns
returns c = c.with_argument.ensures _ _ c.bare_draw.ensures c.at_option.ensures
