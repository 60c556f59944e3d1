use Rattle.pfx_program_args.proofs.head.bare_head.Goals as goal

pub returns : goal.returns
returns c = c.with_argument.ensures _ _ c.subcommand.ensures c.required_word-log.ensures
