-- How a call answers a refusal.
use Rattle.std.specs.Prelude.{◌≡◌, ◌≢◌, ℕ}
use Rattle.pfx_fault.specs.declared.refusals.Fault.{Fault}
use Rattle.pfx_fault.specs.declared.refusals.Fault.TheVariants as fault
use Rattle.pfx_fault.specs.Refusals.{number_of}

-- the task that a fault of a set or of a ledger names, and else what was there
abbrev pub task_named : Fault → ℕ → ℕ
task_named (fault.BadWeight task) old = task
task_named (fault.HyperperiodTooLarge task) old = task
task_named (fault.OutOfRange task) old = task
task_named other old = old

-- the number is that of a refusal that holds
abbrev pub IsRefused : ℕ → (Fault → Type 0) → Type 0
IsRefused number Fails = (f : Fault) × (number ≡ number_of f) × Fails f

-- and the task that it names, if it names one, is put in the place of what was there
abbrev pub IsNamed : ℕ → ℕ → ℕ → (Fault → Type 0) → Type 0
IsNamed number old new Fails = (f : Fault) × (number ≡ number_of f) × (new ≡ task_named f old) × Fails f

-- no two faults hold together, but for want of memory
abbrev pub HasOneFault : (Fault → Type 0) → Type 0
HasOneFault Fails = (f g : Fault) → f ≢ fault.NoMemory → g ≢ fault.NoMemory → Fails f → Fails g → f ≡ g

-- no fault holds, but for want of memory
abbrev pub HasNoFault : (Fault → Type 0) → Type 0
HasNoFault Fails = (f : Fault) → Fails f → f ≡ fault.NoMemory
