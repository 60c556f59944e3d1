use Rattle.pfx_program_args.proofs.explain.explain_command.Goals as goal

pub returns : goal.returns
returns c = c.with_argument.ensures _ _ c.bare_explain.ensures c.json_flag.ensures
