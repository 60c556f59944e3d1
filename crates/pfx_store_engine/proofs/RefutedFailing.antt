-- Worked rows: what is kept and what is told where something has failed, and what isn't.
use Rattle.std.proofs.Common.{◌≡◌, ℕ, None, Some, Ok, Err, refl, ap, ◌∙◌, arith}
use Rattle.pfx_fault.specs.declared.fields.Cause.{Cause}
use Rattle.pfx_fault.specs.declared.fields.Cause.TheVariants as cause
use Rattle.pfx_fault.specs.declared.refusals.Fault.{Fault}
use Rattle.pfx_fault.specs.declared.refusals.Fault.TheVariants as fault
use Rattle.pfx_store_engine.specs.declared.engine.EngineFault.TheVariants as enginefault
use Rattle.pfx_store_engine.specs.Failing.{Fails, IsStop, last_kept}

kept : last_kept None 5 ≡ Ok 5
kept = refl

stopped : last_kept (Some cause.Log) 5 ≡ Err (fault.StoreFailed 5 cause.Log)
stopped = refl

abbrev cause_of : Fault → Cause
cause_of (fault.StoreFailed marked why) = why
cause_of other = cause.Memory

abbrev marked_by : Fault → ℕ
marked_by (fault.StoreFailed marked why) = marked
marked_by other = 0

-- a log isn't told of a keeper that fails by its disk alone
not_the_log : IsStop (λ why. why ≡ cause.Device) 5 (fault.StoreFailed 5 cause.Log) → ⊥
not_the_log (why, disk, is) = let log = ap cause_of is ∙ disk in cc

-- nor another number
not_the_next : (may : Cause → Type 0) → IsStop may 5 (fault.StoreFailed 6 cause.Device) → ⊥
not_the_next may (why, can, is) = let six = ap marked_by is in omega (arith, six)

-- nor another fault
not_another : (may : Cause → Type 0) → IsStop may 5 fault.NotEmpty → ⊥
not_another may (why, can, is) = cc

-- a failure is known by its cause
not_unknown : Fails 5 (λ why. ⊥) ⊥ (enginefault.Failed (fault.StoreFailed 5 cause.Device)) → ⊥
not_unknown (why, is, known) = known
