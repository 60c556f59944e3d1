use Rattle.std.proofs.Common.{sym, ◌∙◌}
use Rattle.pfx_program.proofs.GroupLemmas.{avoid_more}
use Rattle.pfx_program.proofs.groups.has_task.Goals as goal

pub loop-command-preserved : goal.loop-command-preserved
loop-command-preserved c =
    avoid_more c.args.task c.args.group.now c.loop-command.command-index c.command-item.result c.loop-command-test.true c.command-item.is c.loop-command.invariant (sym c.touches.ensures ∙ c.if-touches.false)
