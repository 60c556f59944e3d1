-- Why a log isn't read.
use Rattle.std.specs.Prelude.{◌≡◌, ◌≢◌, ◌≤◌, ◌<◌, ◌⊎◌, ℕ, ◌+◌, ◌^◌, ⊤, List, [], ◌∷◌, ◌++◌, length, take, drop, slice_index}
use Rattle.byteorder.specs.Endian.{little_bytes, little_number}
use Rattle.pfx_disk.specs.declared.gates.TheConstants.{GATE_OPEN}
use Rattle.pfx_log.specs.Holding.{Begins}
use Rattle.pfx_log.specs.Logs.{Block, Log, block_text, head_of, last_head, last_number, mark, this_version}
use Rattle.pfx_log.specs.declared.faults.Damage.TheVariants.{Header, Block as BlockIs, Number, Head}
use Rattle.pfx_log.specs.declared.faults.LogFault.{LogFault}
use Rattle.pfx_log.specs.declared.faults.LogFault.TheVariants.{NoMemory, Device, NotALog, WrongVersion, Damaged, TooLong}
use Rattle.pfx_log.specs.declared.place.LogPlace.{LogPlace}
use Rattle.pfx_log.specs.declared.place.TheConstants.{MOST}

-- how long the bytes say that the state is
abbrev pub state_len : List ℕ → ℕ
state_len image = little_number 4 (drop 11 image)

-- Why the bytes begin with no header: fewer than 15, or another mark; another version; a state that is too long; one that is too short, or
-- that the bytes end before, with the head behind it.
abbrev pub IsHeaderFault : LogFault → List ℕ → Type 0
IsHeaderFault NoMemory image = ⊤
IsHeaderFault Device image = ⊤
IsHeaderFault NotALog image = (length image < 15) ⊎ (take 9 image ≢ mark)
IsHeaderFault (WrongVersion version) image = (take 9 image ≡ mark) × (slice_index image 9 ≡ version) × (version ≢ this_version)
IsHeaderFault (TooLong at) image = (at ≡ 0) × (take 9 image ≡ mark) × (MOST < state_len image)
IsHeaderFault (Damaged at Header) image = (at ≡ 0) × (take 9 image ≡ mark) × ((state_len image < 8) ⊎ (length image < 47 + state_len image))
IsHeaderFault (Damaged at what) image = ⊥

-- frames that aren't too long, and numbers of eight bytes
pub record IsSized (block : Block) : Type 0 where
  pub most : length block.frames ≤ MOST
  pub first : block.first < 2 ^ 64
  pub last : block.last < 2 ^ 64

-- there is no byte, or the first is an open gate
abbrev pub IsOpenOrNone : List ℕ → Type 0
IsOpenOrNone [] = ⊤
IsOpenOrNone (gate ∷ rest) = gate ≡ GATE_OPEN

-- Why no block stands behind a log, in the bytes from there on, which don't begin with a closed gate.
abbrev pub IsBlockFault : LogFault → Log → ℕ → List ℕ → Type 0
IsBlockFault NoMemory log place rest = ⊤
IsBlockFault Device log place rest = ⊤
IsBlockFault NotALog log place rest = ⊥
IsBlockFault (WrongVersion version) log place rest = ⊥
IsBlockFault (Damaged at Header) log place rest = ⊥
-- they end before a block does
IsBlockFault (Damaged at BlockIs) log place rest = (at ≡ place) × IsOpenOrNone rest × ((block : Block) (head more : List ℕ) → IsSized block → length head ≡ 32
    → rest ≢ GATE_OPEN ∷ (block_text block ++ (head ++ more)))
-- the block begins with another number than the next, or ends before it begins
IsBlockFault (Damaged at Number) log place rest = (at ≡ place) × (block : Block) × (more : List ℕ) × IsSized block
    × (rest ≡ GATE_OPEN ∷ (block_text block ++ more)) × ((block.first ≢ last_number log + 1) ⊎ (block.last < block.first))
-- another head stands behind it
IsBlockFault (Damaged at Head) log place rest = (at ≡ place) × (block : Block) × (head : List ℕ) × (more : List ℕ) × IsSized block
    × (rest ≡ GATE_OPEN ∷ (block_text block ++ (head ++ more))) × (length head ≡ 32) × (head ≢ head_of (last_head log) block)
-- its frames are too long
IsBlockFault (TooLong at) log place rest = (at ≡ place) × (n : ℕ) × (more : List ℕ) × (n < 2 ^ 64) × (rest ≡ GATE_OPEN ∷ (little_bytes 8 n ++ more)) × (MOST < n)

-- memory ran out or the disk failed
abbrev pub IsOfMachine : LogFault → Type 0
IsOfMachine NoMemory = ⊤
IsOfMachine Device = ⊤
IsOfMachine NotALog = ⊥
IsOfMachine (WrongVersion version) = ⊥
IsOfMachine (Damaged at what) = ⊥
IsOfMachine (TooLong at) = ⊥

-- the fault is one of the header, or the image begins with a log and no block stands behind it
abbrev pub IsFault : LogFault → List ℕ → Type 0
IsFault fault image = IsHeaderFault fault image
    ⊎ ((log : Log) × (place : LogPlace) × Begins log place image × IsBlockFault fault log place.at (drop place.at image))
