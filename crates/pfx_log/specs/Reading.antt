-- What reading a log does to a disk, and what it answers.
use Rattle.std.specs.Prelude.{◌≡◌, ◌≢◌, ℕ, ◌+◌, ◌≤◌, ◌<◌, List, [], ◌∷◌, ◌++◌, length, take, drop, slice_index, Option, Some, None, Result, Ok, Err, IfErr}
use Rattle.byteorder.specs.Endian.{little_bytes}
use Rattle.pfx_disk.specs.Disk.{View, HasFailed, IsHonest, Leaves, Same}
use Rattle.pfx_disk.specs.declared.gates.TheConstants.{GATE_OPEN}
use Rattle.pfx_log.specs.Faults.{IsBlockFault, IsHeaderFault, IsFault}
use Rattle.pfx_log.specs.Holding.{Begins, Holds}
use Rattle.pfx_log.specs.Logs.{Log, block_of, mark, new_log, this_version, with_block}
use Rattle.pfx_log.specs.declared.faults.LogFault.{LogFault}
use Rattle.pfx_log.specs.declared.faults.LogFault.TheVariants.{Device}
use Rattle.pfx_log.specs.declared.place.LogBlock.{LogBlock}
use Rattle.pfx_log.specs.declared.place.LogHeader.{LogHeader}
use Rattle.pfx_log.specs.declared.place.LogPlace.{LogPlace}
use Rattle.pfx_log.specs.declared.place.TheConstants.{MOST}

-- an honest disk that holds these bytes
pub record Keeps (bytes : List ℕ) (disk : View) : Type 0 where
  pub honest : IsHonest disk
  pub contents : disk.contents ≡ bytes

-- nothing is written, time goes on, failures stay, and no disk becomes honest
pub record Looks (old new : View) : Type 0 where
  pub leaves : IsHonest old → Leaves Same old new
  pub honest : IsHonest new → IsHonest old
  pub later : old.clock ≤ new.clock
  pub no_fewer : old.failures ≤ new.failures

-- Calls that only read, of which a fault of the device means that the disk failed; and whatever bytes an honest disk holds, this is so of them
-- and the answer.
pub record ReadsHeld {T : Type 0} (old new : View) (result : Result T LogFault) (answered : List ℕ → Type 0) : Type 0 where
  pub looks : Looks old new
  pub device : IfErr result (λ fault. fault ≡ Device → HasFailed old new)
  pub exact : (bytes : List ℕ) → Keeps bytes old → answered bytes

-- an honest disk holds so many bytes
abbrev pub HasLen : ℕ → View → Type 0
HasLen len disk = IsHonest disk → length disk.contents ≡ len

-- an honest disk holds so many bytes at least
abbrev pub Reaches : ℕ → View → Type 0
Reaches len disk = IsHonest disk → len ≤ length disk.contents

-- a block of n bytes of frames and these numbers fits behind the open gate at this place, before so many bytes end
pub record IsNext (place : LogPlace) (len n first last : ℕ) : Type 0 where
  pub fits : place.at + 57 + n ≤ len
  pub most : n ≤ MOST
  pub next : first ≡ place.last + 1
  pub some : first ≤ last

-- these numbers stand behind the open gate at this place
pub record IsFront (at n first last : ℕ) (bytes : List ℕ) : Type 0 where
  pub gate : slice_index bytes at ≡ GATE_OPEN
  pub front : take 24 (drop (at + 1) bytes) ≡ little_bytes 8 n ++ (little_bytes 8 first ++ little_bytes 8 last)

-- the block's front at this place, a closed gate there, or why there is neither
abbrev pub FrontAnswer : LogPlace → Result (Option (ℕ × ℕ × ℕ)) LogFault → List ℕ → Type 0
FrontAnswer place (Ok (Some front)) bytes = IsFront place.at front.0 front.1 front.2 bytes
FrontAnswer place (Ok None) bytes = (place.at < length bytes) × (slice_index bytes place.at ≢ GATE_OPEN)
FrontAnswer place (Err fault) bytes = (log : Log) → Begins log place bytes → IsBlockFault fault log place.at (drop place.at bytes)

-- What follows on the log that ends at this place: the block, behind which it ends at the other place; a closed gate; or why neither.
abbrev pub BlockAnswer : LogPlace → Result (Option (LogBlock × LogPlace)) LogFault → List ℕ → Type 0
BlockAnswer place (Ok (Some found)) bytes = (log : Log) → Begins log place bytes
    → Begins (with_block log (block_of found.0.first found.0.last found.0.frames.items)) found.1 bytes
BlockAnswer place (Ok None) bytes = (log : Log) → Begins log place bytes → Holds bytes log
BlockAnswer place (Err fault) bytes = (log : Log) → Begins log place bytes → IsBlockFault fault log place.at (drop place.at bytes)

-- the front of a header with this version and a state of so many bytes, which end with the head behind it inside
pub record IsHeaderFront (version n : ℕ) (bytes : List ℕ) : Type 0 where
  pub front : take 15 bytes ≡ (mark ++ (this_version ∷ version ∷ [])) ++ little_bytes 4 n
  pub some : 8 ≤ n
  pub most : n ≤ MOST
  pub fits : 47 + n ≤ length bytes

-- the front of a header, or why there is none
abbrev pub HeaderFrontAnswer : Result (ℕ × ℕ) LogFault → List ℕ → Type 0
HeaderFrontAnswer (Ok front) bytes = IsHeaderFront front.0 front.1 bytes
HeaderFrontAnswer (Err fault) bytes = IsHeaderFault fault bytes

-- the log of this header, which ends at this place, or why there is no header
abbrev pub HeaderAnswer : Result (LogHeader × LogPlace) LogFault → List ℕ → Type 0
HeaderAnswer (Ok found) bytes = Begins (new_log found.0.version found.0.state.items found.0.before) found.1 bytes
HeaderAnswer (Err fault) bytes = IsHeaderFault fault bytes

-- where the log that is held ends, or why none is held
abbrev pub EndAnswer : Result LogPlace LogFault → List ℕ → Type 0
EndAnswer (Ok place) bytes = (log : Log) × Holds bytes log × Begins log place bytes
EndAnswer (Err fault) bytes = IsFault fault bytes
