-- How a call that works on a store's file answers.
use Rattle.std.specs.Prelude.{◌≡◌, ◌↔◌, ◌≤◌, Bool, true, false, Result, IsOk, IsErrOf}
use Rattle.pfx_disk.specs.Disk.{View, HasFailed}
use Rattle.pfx_store_file.specs.declared.faults.StoreFault.{StoreFault}
use Rattle.pfx_store_file.specs.declared.faults.StoreFault.TheVariants.{Device, Broken}

-- A call on a file that may be broken before it, and may be after it: it is broken if the disk failed, and a broken
-- file is refused.
pub record Works {T : Type 0} (old new : View) (was is : Bool) (result : Result T StoreFault) : Type 0 where
  pub whole : IsOk result → is ≡ false
  pub device : IsErrOf result Device → HasFailed old new
  pub breaks : IsErrOf result Device → is ≡ true
  pub broken : IsErrOf result Broken ↔ (was ≡ true)

-- time goes on, and failures stay
pub record GoesOn (old new : View) : Type 0 where
  pub later : old.clock ≤ new.clock
  pub no_fewer : old.failures ≤ new.failures
