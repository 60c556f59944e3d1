use Rattle.pfx_program_args.proofs.explain.bare_explain.Goals as goal

pub returns : goal.returns
returns c = c.with_argument.ensures _ _ c.subcommand.ensures c.required_word-fault.ensures
