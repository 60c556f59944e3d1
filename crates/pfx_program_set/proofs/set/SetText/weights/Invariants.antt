use Rattle.std.proofs.Common.{◌≡◌, map, take}
use Rattle.pfx_program_set.specs.SetFile.{weight_of}
use Rattle.pfx_program_set.specs.Views.{task_view}
use Rattle.pfx_program_set.proofs.set.SetText.weights.Given as goal

-- the weights of the tasks so far
abbrev pub invariant-loop-task : goal.invariant-loop-task
invariant-loop-task l = l.weights.items ≡ map weight_of (map task_view (take l.task-index l.self.tasks.items))
