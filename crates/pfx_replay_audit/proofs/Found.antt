-- Walking over a log's blocks to the one that has a command.
use Rattle.std.proofs.lemmas.List.Elements.{All-append}
use Rattle.std.proofs.Common.{◌≡◌, ◌<◌, ℕ, zero, suc, arith, get_or, List, [], ◌∷◌, ◌++◌, All, Result, Ok, Err, IfErr}
use Rattle.pfx_disk.specs.Disk.{View, HasFailed}
use Rattle.pfx_log.specs.Logs.{Block}
use Rattle.pfx_log.specs.Reading.{Looks}
use Rattle.pfx_log.specs.declared.faults.LogFault.{LogFault}
use Rattle.pfx_log.specs.declared.faults.LogFault.TheVariants.{Device}
use Rattle.pfx_log.proofs.Looks.{failed_after}

-- a device that failed behind some reads has failed since before them
pub device_then : {T : Type 0} (a b d : View) (result : Result T LogFault) → Looks a b → IfErr result (λ f. f ≡ Device → HasFailed b d)
    → IfErr result (λ f. f ≡ Device → HasFailed a d)
device_then a b d (Ok x) looks h = tt
device_then a b d (Err f) looks h = λ is. failed_after a b d looks (h is)

-- one more holds too
pub all_more : (P : Block → Type 0) (xs : List Block) (y : Block) → All P xs → P y → All P (xs ++ y ∷ [])
all_more P xs y h p = All-append P xs (y ∷ []) h one
  where
    one : (k : ℕ) → (d : Block) → k < 1 → P (get_or (y ∷ []) k d)
    one zero d low = p
    one (suc k) d low = absurd (omega (arith, low))
