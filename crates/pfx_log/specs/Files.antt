-- A log on its disk, and what the calls that write it do.
use Rattle.std.specs.Prelude.{◌≡◌, ◌≢◌, ◌⊎◌, ◌↔◌, ℕ, ◌+◌, ◌≤◌, ◌<◌, ◌^◌, List, length, true, false, Result, OnOk, IfErr}
use Rattle.pfx_disk.specs.Disk.{View, HasFailed, IsHonest, Leaves, Same}
use Rattle.pfx_disk.specs.declared.device.Disk.{Ghosts}
use Rattle.pfx_segment.specs.Segment.{Takes}
use Rattle.pfx_log.specs.Acts.{Creates, Grows}
use Rattle.pfx_log.specs.Holding.{Holds, IsEnd}
use Rattle.pfx_log.specs.Logs.{Block, Log, head_of, with_block}
use Rattle.pfx_log.specs.declared.faults.AppendFault.{AppendFault}
use Rattle.pfx_log.specs.declared.faults.AppendFault.TheVariants.{Broken, Device as DeviceIs, Full, Gap, NoMemory as NoMemoryIs, TooLong as TooLongIs}
use Rattle.pfx_log.specs.declared.faults.CreateLogFault.{CreateLogFault}
use Rattle.pfx_log.specs.declared.faults.CreateLogFault.TheVariants.{Device, NoMemory, NotEmpty}
use Rattle.pfx_log.specs.declared.file.LogFile.{LogFile}
use Rattle.pfx_log.specs.declared.place.LogPlace.{LogPlace}
use Rattle.pfx_log.specs.declared.place.TheConstants.{MOST}

-- The disk is honest, each image that a stop now may leave holds the log, and the place is where it ends.
pub record IsOpen {D : Type 0} {g : Ghosts D} (log : Log) (file : LogFile D g) : Type 0 where
  pub honest : IsHonest (g.view file.disk)
  pub images : (image : List ℕ) → (g.view file.disk).now image → Holds image log
  pub end : IsEnd log file.place
  pub whole : file.broken ≡ false

-- the place behind a block that stands at a place
pub record IsBehind (place : LogPlace) (block : Block) (next : LogPlace) : Type 0 where
  pub at : next.at ≡ place.at + (57 + length block.frames)
  pub last : next.last ≡ block.last
  pub head : next.head ≡ head_of place.head block

-- Why a log isn't made on this disk, which then is the other one: no memory, and no call was made; the disk failed; or it held bytes, and
-- nothing was written.
abbrev pub IsCreateFault : View → View → CreateLogFault → Type 0
IsCreateFault old new NoMemory = (new.clock ≡ old.clock) × (new.failures ≡ old.failures) × (IsHonest old → Leaves Same old new)
IsCreateFault old new Device = HasFailed old new
IsCreateFault old new NotEmpty = IsHonest old → (0 < length old.contents) × Leaves Same old new

-- Calls that make this log, seven where all succeed. At every moment what was empty is no log yet, or this one; what wasn't is left as it was.
pub record Makes {T E : Type 0} (log : Log) (old new : View) (result : Result T E) : Type 0 where
  pub takes : Takes 7 old new result
  pub honest : IsHonest old ↔ IsHonest new
  pub leaves : IsHonest old → Leaves (Creates log) old new
  pub untouched : IsHonest old → 0 < length old.contents → Leaves Same old new

-- a block of so many bytes behind this place isn't of its numbers, or its frames are too long, or the log is
abbrev pub IsRefused : LogPlace → ℕ → ℕ → ℕ → AppendFault → Type 0
IsRefused place first last long Broken = Unit {0}
IsRefused place first last long DeviceIs = Unit {0}
IsRefused place first last long NoMemoryIs = Unit {0}
IsRefused place first last long Gap = (first ≢ place.last + 1) ⊎ (last < first)
IsRefused place first last long TooLongIs = MOST < long
IsRefused place first last long Full = 2 ^ 62 ≤ place.at

-- the disk failed in the call, or before it, and the log is broken; else it is as it was
abbrev pub IsLeftBy : {D : Type 0} {g : Ghosts D} → LogFile D g → LogFile D g → AppendFault → Type 0
IsLeftBy {g = g} old new DeviceIs = (new.broken ≡ true) × (old.broken ≡ false) × (new.place ≡ old.place) × HasFailed (g.view old.disk) (g.view new.disk)
IsLeftBy old new Broken = (new ≡ old) × (old.broken ≡ true)
IsLeftBy old new NoMemoryIs = new ≡ old
IsLeftBy old new Gap = new ≡ old
IsLeftBy old new TooLongIs = new ≡ old
IsLeftBy old new Full = new ≡ old

module _ {D T : Type 0} {g : Ghosts D} (old new : LogFile D g) (result : Result T AppendFault) where
  -- A call that appends a block of these numbers, with frames of so many bytes: four calls of the disk where all succeed. It is refused where
  -- it says so, before any of them; a fault of the device breaks the log; and where it succeeds the numbers go on, and the log is whole.
  pub record IsAppend (first last long : ℕ) : Type 0 where
    pub takes : Takes 4 (g.view old.disk) (g.view new.disk) result
    pub honest : IsHonest (g.view old.disk) ↔ IsHonest (g.view new.disk)
    pub refused : IfErr result (IsRefused old.place first last long)
    pub left : IfErr result (IsLeftBy old new)
    pub next : OnOk result ((first ≡ old.place.last + 1) × (first ≤ last) × (long ≤ MOST) × (old.broken ≡ false))
    pub whole : OnOk result (new.broken ≡ false)

  -- The block is appended to the log: at every moment an image that held the log holds it, or the log with the block, whole; once the call
  -- succeeded each image that a stop from then on may leave has it.
  pub record Appends (log : Log) (block : Block) : Type 0 where
    pub leaves : Leaves (Grows log block) (g.view old.disk) (g.view new.disk)
    pub opened : OnOk result (IsOpen (with_block log block) new)
    pub acknowledged : OnOk result ((image : List ℕ) → (g.view new.disk).since (g.view new.disk).clock image → Holds image (with_block log block))
