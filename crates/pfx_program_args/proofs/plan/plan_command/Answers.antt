use Rattle.pfx_program_args.proofs.plan.plan_command.Goals as goal

pub returns : goal.returns
returns c = c.with_argument.ensures _ _ (c.with_argument-command-2.ensures _ _ (c.with_argument-command.ensures _ _ c.bare_plan.ensures c.at_option.ensures) c.ledger_flag.ensures) c.json_flag.ensures
