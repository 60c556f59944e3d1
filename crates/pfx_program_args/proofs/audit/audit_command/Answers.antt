use Rattle.pfx_program_args.proofs.audit.audit_command.Goals as goal

pub returns : goal.returns
returns c = c.with_argument.ensures _ _ (c.with_argument-command-2.ensures _ _ (c.with_argument-command.ensures _ _ c.windowed_audit.ensures c.numbered_option-number.ensures) c.csv_flag.ensures) c.json_flag.ensures
