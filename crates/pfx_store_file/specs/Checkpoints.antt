-- How far a checkpoint is.
use Rattle.std.specs.Prelude.{ℕ, Bool, true, false}
use Rattle.pfx_store_file.specs.declared.progress.Checkpoint.{Checkpoint}
use Rattle.pfx_store_file.specs.declared.progress.Checkpoint.TheVariants.{Ended, Pending, Writing}

-- whether there is one in progress
abbrev pub in_progress : Checkpoint → Bool
in_progress Ended = false
in_progress Pending = true
in_progress (Writing done) = true

-- whether its area was closed for it
abbrev pub is_begun : Checkpoint → Bool
is_begun Ended = false
is_begun Pending = false
is_begun (Writing done) = true

-- how many bytes of it have been written
abbrev pub written : Checkpoint → ℕ
written Ended = 0
written Pending = 0
written (Writing done) = done
