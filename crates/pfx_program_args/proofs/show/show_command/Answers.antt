use Rattle.pfx_program_args.proofs.show.show_command.Goals as goal

pub returns : goal.returns
returns c = c.with_argument.ensures _ _ (c.with_argument-command.ensures _ _ c.bare_show.ensures c.task_word.ensures) c.json_flag.ensures
