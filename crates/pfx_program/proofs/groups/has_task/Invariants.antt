use Rattle.std.proofs.Common.{take}
use Rattle.pfx_program.specs.Groups.{Avoid}
use Rattle.pfx_program.proofs.groups.has_task.Given as goal

-- the commands before are of other tasks
abbrev pub invariant-loop-command : goal.invariant-loop-command
invariant-loop-command l = Avoid l.task (take l.command-index l.group)
