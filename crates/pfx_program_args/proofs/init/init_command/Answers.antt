use Rattle.pfx_program_args.proofs.init.init_command.Goals as goal

pub returns : goal.returns
returns c = c.with_argument.ensures _ _ (c.with_argument-command.ensures _ _ c.bare_init.ensures c.at_option.ensures) c.json_flag.ensures
