-- Rows that show what a set file is.
use Rattle.std.proofs.Common.{◌≡◌, codes, refl, [], ◌∷◌, Some, None}
use Rattle.std.specs.Str.{is_utf8, chars}
use Rattle.toml.proofs.OnLiterals.{toml_on_literals}
use Rattle.pfx_program_set.specs.SetFile.{FileTask, set_in, task_in, set_of_bytes}

abbrev half : FileTask
half = record { name = codes "half"; e = 1; p = 2 }

pub one_task : set_of_bytes (codes "workers = 1\n[[task]]\nname = \"half\"\ne = 1\np = 2\n") ≡ Some (record { workers = 1; segment = 1048576; tasks = half ∷ [] })
unfolding is_utf8 chars toml_on_literals set_of_bytes set_in task_in
one_task = refl

pub no_task : set_of_bytes (codes "segment = 65536\nworkers = -1") ≡ Some (record { workers = 0; segment = 65536; tasks = [] })
unfolding is_utf8 chars toml_on_literals set_of_bytes set_in task_in
no_task = refl

pub no_workers : set_of_bytes (codes "segment = 65536") ≡ None
unfolding is_utf8 chars toml_on_literals set_of_bytes set_in task_in
no_workers = refl

pub doubled_name : set_of_bytes (codes "workers = 1\ntask = [{name = \"a\", e = 1, p = 2}, {name = \"a\", e = 1, p = 3}]") ≡ None
unfolding is_utf8 chars toml_on_literals set_of_bytes set_in task_in
doubled_name = refl
