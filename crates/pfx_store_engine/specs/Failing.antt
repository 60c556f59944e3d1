-- What an engine answers if what keeps its commands has failed.
use Rattle.std.specs.Prelude.{◌≡◌, ℕ, Bool, true, Option, None, Some, Result, Ok, Err, IfErr, ⊤}
use Rattle.pfx_machine_feasible.specs.Commands.{limit_fault}
use Rattle.pfx_fault.specs.declared.fields.Cause.{Cause}
use Rattle.pfx_fault.specs.declared.refusals.Fault.{Fault}
use Rattle.pfx_fault.specs.declared.refusals.Fault.TheVariants as fault
use Rattle.pfx_machine.specs.Plain.{Plain}
use Rattle.pfx_machine.specs.Runs.{answer}
use Rattle.pfx_machine.specs.declared.command.Command.{Command}
use Rattle.pfx_machine.specs.declared.command.Command.TheVariants.{Slot}
use Rattle.pfx_store_engine.specs.Keeping.{IsAccepted}
use Rattle.pfx_store_engine.specs.declared.engine.EngineFault.{EngineFault}
use Rattle.pfx_store_engine.specs.declared.engine.EngineFault.TheVariants as enginefault
use Rattle.pfx_jobs.specs.Kind.{Kind}

-- it failed by this cause, with the commands up to this number kept
abbrev pub stopped_at : ℕ → Cause → Fault
stopped_at marked cause = fault.StoreFailed marked cause

-- what keeps the commands may fail by this cause: something of its type has
abbrev pub MayFail : {K : Type 0} → (K → Option Cause) → Cause → Type 0
MayFail {K = K} failed cause = (keeper : K) × (failed keeper ≡ Some cause)

-- the fault says that it failed, by a cause that is one of these
abbrev pub IsStop : (Cause → Type 0) → ℕ → Fault → Type 0
IsStop may marked f = (cause : Cause) × may cause × (f ≡ stopped_at marked cause)

-- the number of the last command that is kept, unless something has failed
abbrev pub last_kept : Option Cause → ℕ → Result ℕ Fault
last_kept None marked = Ok marked
last_kept (Some cause) marked = Err (stopped_at marked cause)

-- Why a command wasn't accepted: the machine refuses it, or an allocation failed, and then this stayed the same; or what keeps it
-- failed, so, after this number, by a cause of which this is known.
abbrev pub Fails : ℕ → (Cause → Type 0) → Type 0 → EngineFault → Type 0
Fails marked failed same (enginefault.Refused f) = same
Fails marked failed same (enginefault.Failed fault.NoMemory) = same
Fails marked failed same (enginefault.Failed other) = (cause : Cause) × (other ≡ stopped_at marked cause) × failed cause

-- If a call doesn't accept a command it tells why, and what stayed the same then; and if something had failed before, the call
-- answers only that, with this number, and nothing changes.
pub record Stops {T : Type 0} (marked : ℕ) (was : Option Cause) (failed : Cause → Type 0) (unchanged : Type 0) (result : Result T EngineFault) : Type 0 where
  pub fails : IfErr result (Fails marked failed unchanged)
  pub stopped : (cause : Cause) → was ≡ Some cause → (result ≡ Err (enginefault.Failed (stopped_at marked cause))) × unchanged

-- The same of a call for Slots; and a starved engine of which nothing has failed answers only that there is no memory, and nothing changes.
pub record StopsSlots {T : Type 0} (marked : ℕ) (was : Option Cause) (was_starved : Bool) (failed : Cause → Type 0) (unchanged : Type 0)
    (result : Result T EngineFault) : Type 0 where
  pub stops : Stops marked was failed unchanged result
  pub starved : was ≡ None → was_starved ≡ true → (result ≡ Err (enginefault.Failed fault.NoMemory)) × unchanged

-- A look at an engine changes nothing. If something had failed before, it answers only that, with this number; else it fails only
-- if there is no memory.
pub record IsLook {E T : Type 0} (marked : ℕ) (was : Option Cause) (old new : E) (result : Result T Fault) : Type 0 where
  pub stopped : (cause : Cause) → was ≡ Some cause → result ≡ Err (stopped_at marked cause)
  pub whole : was ≡ None → IfErr result (λ f. f ≡ fault.NoMemory)
  pub stays : new ≡ old

-- the machine refuses the command, and the state is as before, or the engine failed
abbrev pub NotAccepted : {J : Type 0} → Kind J → Plain J → Command J → Plain J → EngineFault → Type 0
NotAccepted K s c new (enginefault.Refused f) = (answer K s c ≡ Err f) × (new ≡ s)
NotAccepted K s c new (enginefault.Failed f) = ⊤

-- if a Slot is refused, the limits on numbers and slots refuse it
abbrev pub IsServed : {J : Type 0} → Plain J → Command J → EngineFault → Type 0
IsServed s c (enginefault.Refused f) = c ≡ Slot → limit_fault s ≡ Some f
IsServed s c (enginefault.Failed f) = ⊤

-- if nothing had failed and something has, the machine accepts the command
abbrev pub IsInDoubt : {J : Type 0} → Kind J → Plain J → Command J → EngineFault → Type 0
IsInDoubt K s c (enginefault.Refused f) = ⊤
IsInDoubt K s c (enginefault.Failed fault.NoMemory) = ⊤
IsInDoubt K s c (enginefault.Failed other) = IsAccepted K s c
