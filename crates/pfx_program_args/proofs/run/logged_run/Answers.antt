use Rattle.pfx_program_args.proofs.run.logged_run.Goals as goal

pub returns : goal.returns
returns c = c.with_argument.ensures _ _ (c.with_argument-command.ensures _ _ c.numbered_run.ensures c.log_option.ensures) c.after_option.ensures
