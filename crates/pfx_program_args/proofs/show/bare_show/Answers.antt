use Rattle.pfx_program_args.proofs.show.bare_show.Goals as goal

pub returns : goal.returns
returns c = c.with_argument.ensures _ _ c.subcommand.ensures c.required_word-file.ensures
