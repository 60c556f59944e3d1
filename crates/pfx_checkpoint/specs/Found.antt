-- The state that bytes are.
use Rattle.std.specs.Prelude.{◌≡◌, ℕ, zero, suc, ◌+◌, ◌*◌, ◌==◌, ◌&&◌, if◌then◌else◌, List, [], ◌∷◌, ◌++◌, length, take, drop, slice_index, Option, Some, None}
use Rattle.std.specs.Prelude.{Result, Ok, Err, ⊤}
use Rattle.std.specs.Str.{bytes_eq}
use Rattle.byteorder.specs.Endian.{little_number}
use Rattle.pfx_weights.specs.Sets.{FilledSet}
use Rattle.pfx_jobs.specs.Kind.{Kind}
use Rattle.pfx_machine.specs.Plain.{Plain}
use Rattle.pfx_checkpoint.specs.declared.faults.CheckpointFault.{CheckpointFault}
use Rattle.pfx_checkpoint.specs.declared.faults.CheckpointFault.TheVariants.{Damaged, NoMemory}
use Rattle.pfx_checkpoint.specs.Spelling.{place_of, state_bytes}
use Rattle.pfx_machine.specs.Fitting.{fits}

-- the number that stands in eight bytes from a place on
abbrev pub number_at : ℕ → List ℕ → ℕ
number_at at bytes = little_number 8 (drop at bytes)

-- the allocations of the first x tasks, if n are real
abbrev pub allocs_at : ℕ → ℕ → List ℕ → List ℕ
allocs_at n zero bytes = []
allocs_at n (suc x) bytes = allocs_at n x bytes ++ number_at (place_of n x) bytes ∷ []

-- the job that stands behind a flag that isn't 0
abbrev pub job_at : {J : Type 0} → Kind J → ℕ → List ℕ → Option J
job_at K at bytes = if slice_index bytes at == 0 then None else K.decoded (take 128 (drop (at + 1) bytes))

-- the jobs of the first x real tasks
abbrev pub jobs_at : {J : Type 0} → Kind J → ℕ → List ℕ → List (Option J)
jobs_at K zero bytes = []
jobs_at K (suc x) bytes = jobs_at K x bytes ++ job_at K (16 + 137 * x + 8) bytes ∷ []

-- what stands at a state's places, of a set that came into force at this slot and a store with segments of this length
abbrev pub plain_at : {J : Type 0} → Kind J → ℕ → ℕ → FilledSet → List ℕ → Plain J
plain_at K from segment s bytes = record {
  number = number_at 0 bytes;
  from = from;
  ledger = record { set = s; slot = number_at 8 bytes; allocs = allocs_at s.real (length s.weights) bytes };
  jobs = jobs_at K s.real bytes;
  segment = segment;
}

-- the state that stands at its places, if it is one and is written as these very bytes
unfoldable pub read_state : {J : Type 0} → Kind J → ℕ → ℕ → FilledSet → List ℕ → Option (Plain J)
read_state K from segment s bytes =
    if fits (plain_at K from segment s bytes) && bytes_eq bytes (state_bytes K (plain_at K from segment s bytes)) then Some (plain_at K from segment s bytes) else None

-- what was answered is the state that the bytes are, or that they are none, unless an allocation failed
abbrev pub Reads : {J : Type 0} → Option (Plain J) → Result (Plain J) CheckpointFault → Type 0
Reads read (Ok s) = read ≡ Some s
Reads read (Err Damaged) = read ≡ None
Reads read (Err NoMemory) = ⊤
