use Rattle.std.proofs.Common.{◌≡◌, map, drop}
use Rattle.pfx_program_set.specs.SetFile.{are_distinct}
use Rattle.pfx_program_set.specs.Views.{task_view}
use Rattle.pfx_program_set.proofs.reading.have_own_names.Given as goal

-- only the tasks that are left can share a name
abbrev pub invariant-loop-i : goal.invariant-loop-i
invariant-loop-i l = are_distinct (map task_view l.tasks) ≡ are_distinct (map task_view (drop l.i l.tasks))
