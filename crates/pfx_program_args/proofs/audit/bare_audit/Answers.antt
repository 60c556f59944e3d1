use Rattle.pfx_program_args.proofs.audit.bare_audit.Goals as goal

pub returns : goal.returns
returns c = c.with_argument.ensures _ _ c.subcommand-command.ensures c.history_words.ensures
