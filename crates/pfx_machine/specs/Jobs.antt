-- A task's job, by its place in the list of jobs.
use Rattle.std.specs.Prelude.{◌==◌, not, Bool, true, false, Option, Some, None}
use Rattle.pfx_jobs.specs.Kind.{Kind}

-- the task is a real one without an unfinished job
abbrev pub is_free : {J : Type 0} → Kind J → Option (Option J) → Bool
is_free K None = false
is_free K (Some None) = true
is_free K (Some (Some s)) = K.left s == 0

-- it has a job
abbrev pub has_job : {J : Type 0} → Option (Option J) → Bool
has_job None = false
has_job (Some None) = false
has_job (Some (Some s)) = true

-- it has an unfinished one
abbrev pub is_busy : {J : Type 0} → Kind J → Option (Option J) → Bool
is_busy K None = false
is_busy K (Some None) = false
is_busy K (Some (Some s)) = not (K.left s == 0)
