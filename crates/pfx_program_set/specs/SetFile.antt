-- What a set file says, in the words of `toml`.
use Rattle.std.specs.Prelude.{codes, ℕ, ℤ, pos, negsuc, Bool, true, not, ◌==◌, ◌&&◌, ◌||◌, nat_lt, nat_le, if◌then◌else◌, List, [], ◌∷◌, length, map, Option}
use Rattle.std.specs.Prelude.{Some, None, option_map, option_and_then}
use Rattle.std.specs.Char.{is_ascii_alphanumeric}
use Rattle.std.specs.List.{list_all}
use Rattle.std.specs.Str.{is_utf8, bytes_eq}
use Rattle.toml.specs.Data.{Data, Items, no_items, item, Members, as_integer, as_str, as_array, as_table, get_member}
use Rattle.toml.specs.Parse.{parse_document}

-- a task of the file: its name and its weight e / p
pub record FileTask : Type 0 where
  pub name : List ℕ
  pub e : ℕ
  pub p : ℕ

-- a set file: the workers, the segment size and the tasks in the file's order
pub record SetFile : Type 0 where
  pub workers : ℕ
  pub segment : ℕ
  pub tasks : List FileTask

-- an integer of the file as a number of 32 bits; any other counts as 0
abbrev pub number_of : ℤ → ℕ
number_of (pos n) = if nat_lt n 4294967296 then n else 0
number_of (negsuc n) = 0

-- the number at a key
abbrev pub number_at : List ℕ → Members → Option ℕ
number_at key table = option_map number_of (option_and_then as_integer (get_member key table))

-- the segment size: 1,048,576 if the file has none
abbrev pub segment_of : Option Data → Option ℕ
segment_of None = Some 1048576
segment_of (Some value) = option_map number_of (as_integer value)

-- the segment size at the key `segment`
abbrev pub segment_in : Members → Option ℕ
segment_in table = segment_of (get_member (codes "segment") table)

-- a letter, a digit, `_` or `-`
abbrev pub is_name_byte : ℕ → Bool
is_name_byte b = is_ascii_alphanumeric b || (b == 95) || (b == 45)

-- 1 to 32 such bytes
abbrev pub is_name : List ℕ → Bool
is_name name = nat_lt 0 (length name) && (nat_le (length name) 32 && list_all is_name_byte name)

-- the text, if it is a name
abbrev pub checked_name : List ℕ → Option (List ℕ)
checked_name name = if is_name name then Some name else None

-- the name at the key `name`
abbrev pub name_in : Members → Option (List ℕ)
name_in table = option_and_then checked_name (option_and_then as_str (get_member (codes "name") table))

-- a task, if its three parts are there
abbrev pub joined : Option (List ℕ) → Option ℕ → Option ℕ → Option FileTask
joined (Some name) (Some e) (Some p) = Some (record { name = name; e = e; p = p })
joined (Some name) (Some e) None = None
joined (Some name) None p = None
joined None e p = None

-- the task that a table is
unfoldable pub task_in : Members → Option FileTask
task_in table = joined (name_in table) (number_at (codes "e") table) (number_at (codes "p") table)

-- the task that a value is
abbrev pub task_of : Data → Option FileTask
task_of value = option_and_then task_in (as_table value)

-- a task before others, if both are there
abbrev pub before : Option FileTask → Option (List FileTask) → Option (List FileTask)
before (Some t) (Some ts) = Some (t ∷ ts)
before (Some t) None = None
before None ts = None

-- the tasks of an array's items, each of which has to be one
abbrev pub tasks_of : Items → Option (List FileTask)
tasks_of no_items = Some []
tasks_of (item value rest) = before (task_of value) (tasks_of rest)

-- no task has this name
abbrev pub is_fresh : List ℕ → List FileTask → Bool
is_fresh name ts = list_all (λ t. not (bytes_eq name t.name)) ts

-- the names differ from each other
abbrev pub are_distinct : List FileTask → Bool
are_distinct [] = true
are_distinct (t ∷ ts) = is_fresh t.name ts && are_distinct ts

-- the tasks, if their names differ
abbrev pub checked_tasks : List FileTask → Option (List FileTask)
checked_tasks ts = if are_distinct ts then Some ts else None

-- the tasks: none if the file has no such key
abbrev pub tasks_at : Option Data → Option (List FileTask)
tasks_at None = Some []
tasks_at (Some value) = option_and_then checked_tasks (option_and_then tasks_of (as_array value))

-- the tasks at the key `task`
abbrev pub tasks_in : Members → Option (List FileTask)
tasks_in table = tasks_at (get_member (codes "task") table)

-- a set, if its three parts are there
abbrev pub set_of : Option ℕ → Option ℕ → Option (List FileTask) → Option SetFile
set_of (Some workers) (Some segment) (Some tasks) = Some (record { workers = workers; segment = segment; tasks = tasks })
set_of (Some workers) (Some segment) None = None
set_of (Some workers) None tasks = None
set_of None segment tasks = None

-- the set that a document is
unfoldable pub set_in : Members → Option SetFile
set_in table = set_of (number_at (codes "workers") table) (segment_in table) (tasks_in table)

-- the set that a file's bytes are: text that is a TOML document that is a set
unfoldable pub set_of_bytes : List ℕ → Option SetFile
set_of_bytes bytes = if is_utf8 bytes then option_and_then set_in (parse_document bytes) else None

-- a task's weight, as e and p
abbrev pub weight_of : FileTask → ℕ × ℕ
weight_of t = (t.e, t.p)

-- the weights of a set, in the file's order
abbrev pub weights_of : SetFile → List (ℕ × ℕ)
weights_of set = map weight_of set.tasks
