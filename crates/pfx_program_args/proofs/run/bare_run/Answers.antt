use Rattle.pfx_program_args.proofs.run.bare_run.Goals as goal

pub returns : goal.returns
returns c = c.with_argument.ensures _ _ (c.with_argument-command.ensures _ _ c.subcommand.ensures c.required_word-file.ensures) c.required_word-script.ensures
