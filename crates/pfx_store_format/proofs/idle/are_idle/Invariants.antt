use Rattle.std.proofs.Common.{◌≡◌, not, drop, slice_get}
use Rattle.std.specs.List.{list_all}
use Rattle.pfx_machine.specs.Jobs.{is_busy}
use Rattle.pfx_store_format.proofs.idle.are_idle.Given as goal

-- what is left decides
abbrev pub invariant-loop-task : goal.invariant-loop-task
invariant-loop-task g l = list_all (λ task. not (is_busy g.J.Job.kind (slice_get l.jobs task))) (drop l.task-index l.tasks) ≡ list_all (λ task. not (is_busy g.J.Job.kind (slice_get l.jobs task))) l.fn.tasks
