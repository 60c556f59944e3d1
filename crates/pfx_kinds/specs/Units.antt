-- Which jobs are the answers of units that other programs do, and which answers are taken.
use Rattle.std.specs.Prelude.{ℕ, ◌+◌, ◌==◌, ◌&&◌, Bool, true, nat_le, if◌then◌else◌, Option, Some, None}
use Rattle.pfx_kinds.specs.declared.any.AnyJob.{AnyJob}
use Rattle.pfx_kinds.specs.declared.any.AnyJob.TheVariants.{Count, Rule, Scan, Own}
use Rattle.pfx_kinds.specs.declared.units.Unit.{Unit}

-- the unit that a job is the answer of
abbrev pub unit_of : AnyJob → Option Unit
unit_of (Count job) = None
unit_of (Rule job) = None
unit_of (Scan job) = None
unit_of (Own job) = Some (record { since = job.since; number = job.answered })

-- the unit that was answered last, by what stands at a task's place in the list of jobs
abbrev pub last_by : {J : Type 0} → (J → Option Unit) → Option J → Option Unit
last_by unit None = None
last_by unit (Some job) = unit job

-- how many units were answered by then, counted in the weights that are in force from a slot on: of other weights, none
abbrev pub count_in : ℕ → Unit → ℕ
count_in from last = if last.since == from then last.number else 0

-- a unit behind the last one; where none was answered, any
abbrev pub is_behind : ℕ → Option Unit → ℕ → Bool
is_behind from None number = true
is_behind from (Some last) number = number == count_in from last + 1

-- Whether an answer is taken at a task's place, of a task that got so many slots since the weights came into force: it has to be of a unit of
-- these weights. What is no answer always is taken, and a task that isn't there is the machine's to refuse.
abbrev pub is_taken : {J : Type 0} → (J → Option Unit) → ℕ → Option (Option J) → ℕ → Option Unit → Bool
is_taken of from place alloc None = true
is_taken of from None alloc (Some unit) = true
is_taken of from (Some place) alloc (Some unit) = (unit.since == from) && nat_le unit.number alloc && is_behind from (last_by of place) unit.number
