-- Which answers of a task's units are taken, and what follows of them: each is of a unit that the task was given, and of the next one.
use Rattle.std.specs.Prelude.{◌≡◌, ◌≢◌, ℕ, ◌+◌, ◌≤◌, ◌==◌, ◌&&◌, Bool, true, nat_le, if◌then◌else◌, List, [], ◌∷◌, ◌++◌, Option, Some, None, slice_get, ⊤}
use Rattle.pfx_columns.specs.Ledgers.{task}
use Rattle.pfx_kinds.specs.AnyKind.{any_kind}
use Rattle.pfx_kinds.specs.OwnKind.{own_from}
use Rattle.pfx_kinds.specs.declared.any.AnyJob.{AnyJob}
use Rattle.pfx_kinds.specs.declared.any.AnyJob.TheVariants.{Count, Rule, Scan, Own}
use Rattle.pfx_kinds.specs.declared.units.Unit.{Unit}
use Rattle.pfx_kinds.specs.Units.{unit_of, last_by, count_in, is_behind, is_taken}
use Rattle.pfx_store_engine.specs.declared.place.RealTask.{RealTask}
use Rattle.pfx_machine.specs.Plain.{Plain}
use Rattle.pfx_machine.specs.Outcome.{outcome}
use Rattle.pfx_machine.specs.declared.command.Command.{Command}
use Rattle.pfx_machine.specs.declared.command.Command.TheVariants.{Submit, Slot, Withdraw, Reweigh}

-- the unit that was answered last, by a task's place in the list of jobs
abbrev pub last_at : Option (Option AnyJob) → Option Unit
last_at None = None
last_at (Some place) = last_by unit_of place

-- how many units a task was given since its weight came into force
abbrev pub granted : Plain AnyJob → ℕ → ℕ
granted s x = (task s.ledger x).alloc

-- a job for a task that is there: an answer counts in the weights in force
abbrev pub counted_from : ℕ → AnyJob → AnyJob
counted_from from (Count job) = Count job
counted_from from (Rule job) = Rule job
counted_from from (Scan job) = Scan job
counted_from from (Own job) = Own (own_from from job)

abbrev pub counted_at : Option (Option AnyJob) → ℕ → AnyJob → AnyJob
counted_at None from job = job
counted_at (Some place) from job = counted_from from job

abbrev pub counted : Plain AnyJob → ℕ → AnyJob → AnyJob
counted s x job = counted_at (slice_get s.jobs x) s.from job

abbrev pub is_next : Plain AnyJob → ℕ → AnyJob → Bool
is_next s x job = is_taken unit_of s.from (slice_get s.jobs x) (granted s x) (unit_of job)

-- the same of an answer by what its task has, where there is one
abbrev pub counted_by : Option (RealTask AnyJob) → AnyJob → AnyJob
counted_by None job = job
counted_by (Some place) job = counted_from place.from job

abbrev pub is_taken_by : Option (RealTask AnyJob) → ℕ → Bool
is_taken_by None number = true
is_taken_by (Some place) number = nat_le number place.allocation && is_behind place.from (last_by unit_of place.job) number

-- ---- what follows

-- the unit that was last answered for a task
abbrev pub last_of : Plain AnyJob → ℕ → Option Unit
last_of s x = last_at (slice_get s.jobs x)

-- Each task was given the unit that was last answered for it, if its weights are those in force; none is of later weights, and no task was
-- given more units than there were slots.
pub record AreGranted (s : Plain AnyJob) : Type 0 where
  pub given : (x : ℕ) (last : Unit) → last_of s x ≡ Some last → last.since ≡ s.from → last.number ≤ granted s x
  pub early : (x : ℕ) (last : Unit) → last_of s x ≡ Some last → last.since ≤ s.from
  pub within : (x : ℕ) → granted s x ≤ s.ledger.slot

-- An answer that is accepted for a task: its unit counts in the weights in force, and the task was given it; and it is the one behind the last,
-- if one was answered, which is the first one if that was of other weights.
abbrev pub FollowsAt : Plain AnyJob → ℕ → Option Unit → Type 0
FollowsAt s x None = ⊤
FollowsAt s x (Some unit) = (unit.since ≡ s.from) × (unit.number ≤ granted s x)
    × ((last : Unit) → last_of s x ≡ Some last → unit.number ≡ count_in s.from last + 1)

abbrev pub Follows : Plain AnyJob → Command AnyJob → Type 0
Follows s (Submit x job) = FollowsAt s x (unit_of job)
Follows s (Withdraw x) = ⊤
Follows s Slot = ⊤
Follows s (Reweigh workers weights) = ⊤

-- after each first part of these commands, and of none of them: each unit that was last answered was given, and so is the next answer
abbrev pub AllFollow : Plain AnyJob → List (Command AnyJob) → List (Command AnyJob) → Type 0
AllFollow s before [] = AreGranted (outcome any_kind s before)
AllFollow s before (c ∷ H) = AreGranted (outcome any_kind s before) × Follows (outcome any_kind s before) c × AllFollow s (before ++ c ∷ []) H

-- ---- the units of one task

abbrev pub with_unit : Option Unit → List Unit → List Unit
with_unit None units = units
with_unit (Some unit) units = unit ∷ units

-- the units whose answers were accepted for a task
abbrev pub units_of : ℕ → List (Command AnyJob) → List Unit
units_of x [] = []
units_of x (Submit y job ∷ H) = if y == x then with_unit (unit_of job) (units_of x H) else units_of x H
units_of x (Withdraw y ∷ H) = units_of x H
units_of x (Slot ∷ H) = units_of x H
units_of x (Reweigh workers weights ∷ H) = units_of x H

-- no command takes the task's answers away: it isn't given a job of pfx's own kinds, and its job isn't withdrawn
abbrev pub KeepsAnswers : ℕ → List (Command AnyJob) → Type 0
KeepsAnswers x [] = ⊤
KeepsAnswers x (Submit y job ∷ H) = (y ≡ x → unit_of job ≢ None) × KeepsAnswers x H
KeepsAnswers x (Withdraw y ∷ H) = (y ≢ x) × KeepsAnswers x H
KeepsAnswers x (Slot ∷ H) = KeepsAnswers x H
KeepsAnswers x (Reweigh workers weights ∷ H) = KeepsAnswers x H

-- each unit is the one behind the one before it, the first the one behind `last`; behind one of other weights it is the first one
abbrev pub CountUp : Unit → List Unit → Type 0
CountUp last [] = ⊤
CountUp last (unit ∷ units) = (unit.number ≡ count_in unit.since last + 1) × CountUp unit units
