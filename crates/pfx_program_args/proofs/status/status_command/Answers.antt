use Rattle.pfx_program_args.proofs.status.status_command.Goals as goal

pub returns : goal.returns
returns c = c.with_argument.ensures _ _ c.bare_status.ensures c.json_flag.ensures
