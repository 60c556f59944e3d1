-- The bytes of a state with the set in force: before the tasks the slot counted from the first one of all, the slot at which the set came
-- into force, the workers and the real tasks' weights; behind them zeros for the idle tasks that another set may have.
use Rattle.std.specs.Prelude.{ℕ, ◌+◌, ◌*◌, ◌-◌, if◌then◌else◌, List, [], ◌∷◌, ◌++◌, length, take, drop, replicate, slice_index, Option, Some, None}
use Rattle.std.specs.Str.{bytes_eq}
use Rattle.byteorder.specs.Endian.{little_bytes}
use Rattle.pfx_weights.specs.Bytes.{weights_bytes, weights_of}
use Rattle.pfx_weights.specs.Sets.{FilledSet}
use Rattle.pfx_weights.specs.Tests.{set_of}
use Rattle.pfx_jobs.specs.Kind.{Kind}
use Rattle.pfx_machine.specs.Plain.{Plain, whole}
use Rattle.pfx_checkpoint.specs.Spelling.{state_bytes, state_len}
use Rattle.pfx_checkpoint.specs.Found.{number_at, read_state}

-- the tasks of a set but for the idle ones
abbrev pub real_tasks : FilledSet → List (ℕ × ℕ)
real_tasks s = take s.real s.weights

-- the last command's number, the slot, where the set came into force, and the workers
abbrev pub before_bytes : {J : Type 0} → Plain J → List ℕ
before_bytes s = little_bytes 8 s.number ++ (little_bytes 8 (whole s) ++ (little_bytes 8 s.from ++ s.ledger.set.workers ∷ []))

-- these, and the weights
abbrev pub head_bytes : {J : Type 0} → Plain J → List ℕ
head_bytes s = before_bytes s ++ weights_bytes (real_tasks s.ledger.set)

-- how many bytes the places of the idle tasks take that the set doesn't have, of 128
abbrev pub spare : FilledSet → ℕ
spare s = 8 * (s.real + 128 - length s.weights)

-- the bytes: those of the state alone have its number and slot in the first 16, which stand in the head here
unfoldable pub whole_bytes : {J : Type 0} → Kind J → Plain J → List ℕ
whole_bytes K s = head_bytes s ++ (drop 16 (state_bytes K s) ++ replicate (spare s.ledger.set) 0)

-- how many they are, if n tasks are real
abbrev pub whole_len : ℕ → ℕ
whole_len n = 1049 + 145 * n

-- the set that stands there, if it is one
abbrev pub set_at : ℕ → List ℕ → Option FilledSet
set_at n bytes = set_of (slice_index bytes 24) (weights_of n (drop 25 bytes))

-- the bytes of the state alone, whose slot is counted from the one at which the set came into force
abbrev pub inner : FilledSet → List ℕ → List ℕ
inner set bytes =
    little_bytes 8 (number_at 0 bytes) ++ (little_bytes 8 (number_at 8 bytes - number_at 16 bytes) ++ take (state_len set - 16) (drop (25 + 8 * set.real) bytes))

abbrev pub if_some : {A B : Type 0} → Option A → (A → Option B) → Option B
if_some None f = None
if_some (Some a) f = f a

-- the state, if it is written as these very bytes
abbrev pub checked : {J : Type 0} → Kind J → List ℕ → Plain J → Option (Plain J)
checked K bytes s = if bytes_eq bytes (whole_bytes K s) then Some s else None

-- the state of a set that stands there
abbrev pub read_of_set : {J : Type 0} → Kind J → ℕ → List ℕ → FilledSet → Option (Plain J)
read_of_set K segment bytes set = if_some (read_state K (number_at 16 bytes) segment set (inner set bytes)) (checked K bytes)

-- the state that stands there, of n real tasks and a store with segments of this length
unfoldable pub read_whole : {J : Type 0} → Kind J → ℕ → ℕ → List ℕ → Option (Plain J)
read_whole K n segment bytes = if_some (set_at n bytes) (read_of_set K segment bytes)
