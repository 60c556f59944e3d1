use Rattle.pfx_program_args.proofs.init.bare_init.Goals as goal

pub returns : goal.returns
returns c = c.with_argument.ensures _ _ (c.with_argument-command.ensures _ _ c.subcommand.ensures c.required_word-set.ensures) c.required_word-file.ensures
