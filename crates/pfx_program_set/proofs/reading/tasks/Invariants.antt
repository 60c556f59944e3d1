use Rattle.std.proofs.Common.{◌≡◌, map, drop}
use Rattle.toml.specs.View.{items_view}
use Rattle.pfx_program_set.specs.SetFile.{tasks_of}
use Rattle.pfx_program_set.specs.Views.{task_view}
use Rattle.pfx_program_set.proofs.SetLemmas.{with_front}
use Rattle.pfx_program_set.proofs.reading.tasks.Given as goal

-- the tasks so far and those of the items that are left
abbrev pub invariant-loop-item : goal.invariant-loop-item
invariant-loop-item l = tasks_of (items_view l.items) ≡ with_front (map task_view l.tasks.items) (tasks_of (items_view (drop l.item-index l.items)))
