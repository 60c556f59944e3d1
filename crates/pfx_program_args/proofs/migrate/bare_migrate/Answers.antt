use Rattle.pfx_program_args.proofs.migrate.bare_migrate.Goals as goal

pub returns : goal.returns
returns c = c.with_argument.ensures _ _ (c.with_argument-command.ensures _ _ c.subcommand.ensures c.required_word-old.ensures) c.required_word-new.ensures
