-- What calls that only read leave of a disk.
use Rattle.std.specs.Prelude.{◌≡◌, ℕ, ◌<◌, ◌≤◌, ◌^◌, List, length, take, drop, Result, IfOk, IsErr, IsErrOf}
use Rattle.pfx_disk.specs.Disk.{View, HasFailed, IsHonest, Leaves, Same, Only}
use Rattle.pfx_disk.specs.declared.device.DeviceFailed.{DeviceFailed}
use Rattle.pfx_store_image.specs.Layout.{is_open, first_at}
use Rattle.pfx_store_recover.specs.declared.faults.OpenFault.{OpenFault}
use Rattle.pfx_store_recover.specs.declared.faults.OpenFault.TheVariants.{Device}
use Rattle.pfx_store_recover.specs.declared.gates.GateHead.{GateHead}

-- An honest disk that holds these bytes, and of which a stop leaves just these.
pub record IsKept (bytes : List ℕ) (disk : View) : Type 0 where
  pub honest : IsHonest disk
  pub contents : disk.contents ≡ bytes
  pub only : Only bytes disk

-- nothing is written, time goes on, failures stay, and an honest disk is so before as after
pub record Looks (old new : View) : Type 0 where
  pub leaves : IsHonest old → Leaves Same old new
  pub honest : IsHonest new → IsHonest old
  pub later : old.clock ≤ new.clock
  pub no_fewer : old.failures ≤ new.failures

-- a call that only reads, and that fails only if the disk does
pub record IsLook {T : Type 0} (old new : View) (result : Result T DeviceFailed) : Type 0 where
  pub looks : Looks old new
  pub failed : IsErr result → HasFailed old new

-- such a call, and this is so of what it answers
pub record LooksAt {T : Type 0} (old new : View) (result : Result T DeviceFailed) (answered : T → Type 0) : Type 0 where
  pub call : IsLook old new result
  pub read : IfOk result answered

-- calls that only read, of which a fault of the device means that the disk failed
pub record OnlyReads {T : Type 0} (old new : View) (result : Result T OpenFault) : Type 0 where
  pub looks : Looks old new
  pub device : IsErrOf result Device → HasFailed old new

-- Calls that only read; and whatever bytes the disk keeps, this is so of what they answer.
pub record ReadsKept {T : Type 0} (old new : View) (result : Result T OpenFault) (answered : List ℕ → Type 0) : Type 0 where
  pub call : OnlyReads old new result
  pub exact : (bytes : List ℕ) → IsKept bytes old → answered bytes

-- so many bytes are there, if the disk is honest
abbrev pub Reaches : ℕ → View → Type 0
Reaches n disk = IsHonest disk → n ≤ length disk.contents

-- From the first place up to the end there are some bytes, and the disk has them, if it is honest; frames there come after the command of
-- this number, which is below 2^48.
pub record IsStretch (first end last : ℕ) (disk : View) : Type 0 where
  pub order : first < end
  pub inside : Reaches end disk
  pub number : last < 2 ^ 48

-- these are the first n bytes
pub record IsFront (n : ℕ) (bytes front : List ℕ) : Type 0 where
  pub value : front ≡ take n bytes
  pub len : length front ≡ n

-- these are so many bytes, and the ones that stand here, if the disk keeps any
pub record AreHeld (at len : ℕ) (disk : View) (held : List ℕ) : Type 0 where
  pub long : length held ≡ len
  pub kept : (bytes : List ℕ) → IsKept bytes disk → held ≡ take len (drop at bytes)

-- so the gate here stands in these bytes, and these eight follow on it
pub record IsGateHead (at : ℕ) (bytes : List ℕ) (head : GateHead) : Type 0 where
  pub gate : head.open ≡ is_open at bytes
  pub behind : head.bytes ≡ first_at at bytes
