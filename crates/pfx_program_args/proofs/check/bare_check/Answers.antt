use Rattle.pfx_program_args.proofs.check.bare_check.Goals as goal

pub returns : goal.returns
returns c = c.with_argument.ensures _ _ c.subcommand.ensures c.required_word-set.ensures
