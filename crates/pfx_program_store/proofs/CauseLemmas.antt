-- What a store beside its log fails by.
use Rattle.std.specs.Prelude.{◌≡◌, Bool, true, false, Some}
use Rattle.std.proofs.Common.{inl, inr, refl}
use Rattle.pfx_disk.specs.declared.device.Disk.{Ghosts as DiskGhosts}
use Rattle.pfx_store_engine.specs.Failing.{MayFail}
use Rattle.pfx_fault.specs.declared.fields.Cause.{Cause}
use Rattle.pfx_fault.specs.declared.fields.Cause.TheVariants as cause
use Rattle.pfx_jobs.specs.declared.job.Job.{Ghosts as JobGhosts}
use Rattle.pfx_program_store.specs.Causes.{IsDiskOrLog}
use Rattle.pfx_log_store.specs.Working.{failure_beside, failure_by}
use Rattle.pfx_log_store.specs.declared.beside.LoggedStore.{LoggedStore}

-- each failure is the disk's or the log's
failed_by : (broken log_broken stopped : Bool) (why : Cause) → failure_by broken log_broken stopped ≡ Some why → IsDiskOrLog why
failed_by true log_broken stopped why is = inl (device why is)
  where
    device : (why : Cause) → Some cause.Device ≡ Some why → why ≡ cause.Device
    device why is = cc
failed_by false true stopped why is = inr (log why is)
  where
    log : (why : Cause) → Some cause.Log ≡ Some why → why ≡ cause.Log
    log why is = cc
failed_by false false true why is = inr (log why is)
  where
    log : (why : Cause) → Some cause.Log ≡ Some why → why ≡ cause.Log
    log why is = cc
failed_by false false false why is = cc

pub disk_or_log : {D L J : Type 0} {d : DiskGhosts D} {l : DiskGhosts L} {k : JobGhosts J} (why : Cause) → MayFail {K = LoggedStore D L J d l k} (λ beside. failure_beside beside) why → IsDiskOrLog why
disk_or_log why (beside, failed) = failed_by beside.store.file.broken beside.log.broken beside.stopped why failed
