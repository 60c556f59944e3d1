-- The bytes of a state: its number, its slot, and for each task its allocations, and for each real task its job.
use Rattle.std.specs.Prelude.{ℕ, zero, suc, ◌+◌, ◌*◌, ◌-◌, nat_lt, if◌then◌else◌, List, [], ◌∷◌, ◌++◌, length, replicate, slice_index_or, slice_get, Option}
use Rattle.std.specs.Prelude.{Some, None}
use Rattle.byteorder.specs.Endian.{little_bytes}
use Rattle.pfx_weights.specs.Sets.{FilledSet}
use Rattle.pfx_columns.specs.Ledgers.{total}
use Rattle.pfx_jobs.specs.Kind.{Kind}
use Rattle.pfx_machine.specs.Plain.{Plain}

-- a task's place for a job: idle tasks have none; a flag, and the job's encoding, or zeros if there is no job
abbrev pub job_bytes : {J : Type 0} → Kind J → Option (Option J) → List ℕ
job_bytes K None = []
job_bytes K (Some None) = 0 ∷ replicate 128 0
job_bytes K (Some (Some s)) = 1 ∷ K.spelling s

-- a task: its allocations, and its job
abbrev pub task_bytes : {J : Type 0} → Kind J → Plain J → ℕ → List ℕ
task_bytes K s x = little_bytes 8 (slice_index_or s.ledger.allocs x 0) ++ job_bytes K (slice_get s.jobs x)

-- the number, the slot, and the first n tasks
abbrev pub front_bytes : {J : Type 0} → Kind J → Plain J → ℕ → List ℕ
front_bytes K s zero = little_bytes 8 s.number ++ little_bytes 8 s.ledger.slot
front_bytes K s (suc n) = front_bytes K s n ++ task_bytes K s n

-- the bytes of a state
unfoldable pub state_bytes : {J : Type 0} → Kind J → Plain J → List ℕ
state_bytes K s = front_bytes K s (total s.ledger)

-- where task x begins, if n tasks are real: a real task takes 137 bytes and an idle one 8
abbrev pub place_of : ℕ → ℕ → ℕ
place_of n x = if nat_lt x n then 16 + 137 * x else 16 + 137 * n + 8 * (x - n)

-- how many bytes the states of a set take
abbrev pub state_len : FilledSet → ℕ
state_len s = place_of s.real (length s.weights)
