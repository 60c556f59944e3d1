use Rattle.pfx_program_args.proofs.audit.windowed_audit.Goals as goal

pub returns : goal.returns
returns c = c.with_argument.ensures _ _ (c.with_argument-command-2.ensures _ _ (c.with_argument-command.ensures _ _ c.bare_audit.ensures c.every_option.ensures) c.numbered_option-from.ensures) c.numbered_option-to.ensures
