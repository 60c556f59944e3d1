use Rattle.pfx_program_args.proofs.program.pfx_command.Goals as goal

pub returns : goal.returns
returns c =
    let one = c.with_subcommand-command.ensures _ _ c.bare_command.ensures c.plan_command.ensures in
    let two = c.with_subcommand-command-2.ensures _ _ one c.init_command.ensures in
    let three = c.with_subcommand-command-3.ensures _ _ two c.run_command.ensures in
    let four = c.with_subcommand-command-4.ensures _ _ three c.status_command.ensures in
    let five = c.with_subcommand-command-5.ensures _ _ four c.replay_command.ensures in
    let six = c.with_subcommand-command-6.ensures _ _ five c.show_command.ensures in
    let seven = c.with_subcommand-command-7.ensures _ _ six c.draw_command.ensures in
    let eight = c.with_subcommand-command-8.ensures _ _ seven c.check_command.ensures in
    let nine = c.with_subcommand-command-9.ensures _ _ eight c.explain_command.ensures in
    let ten = c.with_subcommand-command-10.ensures _ _ nine c.migrate_command.ensures in
    let eleven = c.with_subcommand-command-11.ensures _ _ ten c.audit_command.ensures in
    c.with_subcommand.ensures _ _ eleven c.head_command.ensures
