-- What the code's values stand for.
use Rattle.std.specs.Prelude.{map, string_bytes}
use Rattle.pfx_program_set.specs.declared.set.SetText.{SetText}
use Rattle.pfx_program_set.specs.declared.set.NamedTask.{NamedTask}
use Rattle.pfx_program_set.specs.SetFile.{SetFile, FileTask}

-- a task
abbrev pub task_view : NamedTask → FileTask
task_view t = record { name = string_bytes t.name; e = t.e; p = t.p }

-- a set
abbrev pub set_view : SetText → SetFile
set_view s = record { workers = s.workers; segment = s.segment; tasks = map task_view s.tasks.items }
