-- A log: the state that it begins at, and the blocks of a store's history behind it.
use Rattle.std.specs.Prelude.{◌≡◌, ◌<◌, ◌≤◌, ℕ, ◌+◌, ◌^◌, List, [], ◌∷◌, ◌++◌, length, All}
use Rattle.byteorder.specs.Endian.{little_bytes, little_number}
use Rattle.pfx_disk.specs.declared.gates.TheConstants.{GATE_OPEN}
use Rattle.pfx_log.specs.declared.place.TheConstants.{MOST}
use Rattle.sha2.specs.Sha256.{sha256}

-- the numbers of its first and last command, and its frames
pub record Block : Type 0 where
  pub first : ℕ
  pub last : ℕ
  pub frames : List ℕ

-- the version of the store's file, the state that the log begins at, the head of the log before or zeros, and the blocks
pub record Log : Type 0 where
  pub version : ℕ
  pub state : List ℕ
  pub before : List ℕ
  pub blocks : List Block

abbrev pub AreBytes : List ℕ → Type 0
AreBytes bytes = All (λ b. b < 256) bytes

-- the number of the last command before the log: a state begins with it
abbrev pub number_of : List ℕ → ℕ
number_of state = little_number 8 state

-- the version, a state of 8 bytes to 2^24, and a head of 32
pub record IsHeader (log : Log) : Type 0 where
  pub version : log.version < 256
  pub some : 8 ≤ length log.state
  pub most : length log.state ≤ MOST
  pub long : length log.before ≡ 32
  pub state : AreBytes log.state
  pub before : AreBytes log.before

-- frames of at most 2^24 bytes, and commands behind the one of this number: one at least
pub record IsBlock (number : ℕ) (block : Block) : Type 0 where
  pub next : block.first ≡ number + 1
  pub some : block.first ≤ block.last
  pub small : block.last < 2 ^ 64
  pub most : length block.frames ≤ MOST
  pub bytes : AreBytes block.frames

-- each is a block behind the one before it
abbrev pub AreBlocks : ℕ → List Block → Type 0
AreBlocks number [] = Unit {0}
AreBlocks number (block ∷ blocks) = IsBlock number block × AreBlocks block.last blocks

pub record IsLog (log : Log) : Type 0 where
  pub header : IsHeader log
  pub blocks : AreBlocks (number_of log.state) log.blocks

-- the number of the last command of the blocks, or the one before them
abbrev pub number_behind : ℕ → List Block → ℕ
number_behind number [] = number
number_behind number (block ∷ blocks) = number_behind block.last blocks

abbrev pub last_number : Log → ℕ
last_number log = number_behind (number_of log.state) log.blocks

-- the log with one block more
abbrev pub with_block : Log → Block → Log
with_block log block = record log { blocks = log.blocks ++ block ∷ [] }

-- a log that has no block yet
abbrev pub new_log : ℕ → List ℕ → List ℕ → Log
new_log version state before = record { version = version; state = state; before = before; blocks = [] }

abbrev pub block_of : ℕ → ℕ → List ℕ → Block
block_of first last frames = record { first = first; last = last; frames = frames }

-- Bytes.

-- an open gate and the letters PFXAUDIT
abbrev pub mark : List ℕ
mark = GATE_OPEN ∷ 0x50 ∷ 0x46 ∷ 0x58 ∷ 0x41 ∷ 0x55 ∷ 0x44 ∷ 0x49 ∷ 0x54 ∷ []

-- the version of logs
abbrev pub this_version : ℕ
this_version = 1

-- the header without its gate
unfoldable pub header_text : Log → List ℕ
header_text log = (0x50 ∷ 0x46 ∷ 0x58 ∷ 0x41 ∷ 0x55 ∷ 0x44 ∷ 0x49 ∷ 0x54 ∷ this_version ∷ log.version ∷ [])
    ++ (little_bytes 4 (length log.state) ++ (log.state ++ log.before))

-- a block without its gate and its head
unfoldable pub block_text : Block → List ℕ
block_text block = little_bytes 8 (length block.frames) ++ (little_bytes 8 block.first ++ (little_bytes 8 block.last ++ block.frames))

-- the head of a log that has no block
abbrev pub first_head : Log → List ℕ
first_head log = sha256 (header_text log)

-- the head of a block behind this head
abbrev pub head_of : List ℕ → Block → List ℕ
head_of head block = sha256 (head ++ block_text block)

-- the head of the last of the blocks behind this head
abbrev pub head_behind : List ℕ → List Block → List ℕ
head_behind head [] = head
head_behind head (block ∷ blocks) = head_behind (head_of head block) blocks

abbrev pub last_head : Log → List ℕ
last_head log = head_behind (first_head log) log.blocks

-- an open gate, the block and its head
abbrev pub block_bytes : List ℕ → Block → List ℕ
block_bytes head block = GATE_OPEN ∷ (block_text block ++ head_of head block)

-- the blocks behind this head, one behind the other
abbrev pub blocks_bytes : List ℕ → List Block → List ℕ
blocks_bytes head [] = []
blocks_bytes head (block ∷ blocks) = block_bytes head block ++ blocks_bytes (head_of head block) blocks

unfoldable pub log_bytes : Log → List ℕ
log_bytes log = (GATE_OPEN ∷ header_text log) ++ blocks_bytes (first_head log) log.blocks
