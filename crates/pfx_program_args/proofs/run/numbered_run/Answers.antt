use Rattle.pfx_program_args.proofs.run.numbered_run.Goals as goal

pub returns : goal.returns
returns c = c.with_argument.ensures _ _ (c.with_argument-command.ensures _ _ c.bare_run.ensures c.workers_option.ensures) c.batch_option.ensures
