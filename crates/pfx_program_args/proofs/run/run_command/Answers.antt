use Rattle.pfx_program_args.proofs.run.run_command.Goals as goal

pub returns : goal.returns
returns c = c.with_argument.ensures _ _ (c.with_argument-command.ensures _ _ c.logged_run.ensures c.strict_flag.ensures) c.json_flag.ensures
