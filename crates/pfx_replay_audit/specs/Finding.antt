-- The block of a log that has a command.
use Rattle.std.specs.Prelude.{◌≤◌, ⊤, ℕ, List, All, Option, Some, None, Result, Ok, Err}
use Rattle.pfx_log.specs.Holding.{Begins, Holds}
use Rattle.pfx_log.specs.Logs.{Block, Log, block_of, with_block}
use Rattle.pfx_log.specs.declared.faults.LogFault.{LogFault}
use Rattle.pfx_log.specs.declared.place.LogBlock.{LogBlock}
use Rattle.pfx_log.specs.declared.place.LogPlace.{LogPlace}

-- the command of this number is one of the block's
abbrev pub Has : ℕ → Block → Type 0
Has number block = (block.first ≤ number) × (number ≤ block.last)

-- the bytes begin with a log whose last block this is, which has the command; it ends at the place
pub record IsFound (number : ℕ) (block : Block) (place : LogPlace) (bytes : List ℕ) : Type 0 where
  pub before : Log
  pub begins : Begins (with_block before block) place bytes
  pub has : Has number block

-- what is answered of a log: that block, or that no block of the log that is held has the command
abbrev pub FoundAnswer : ℕ → Result (Option (LogBlock × LogPlace)) LogFault → List ℕ → Type 0
FoundAnswer number (Ok (Some x)) bytes = IsFound number (block_of x.0.first x.0.last x.0.frames.items) x.1 bytes
FoundAnswer number (Ok None) bytes = (log : Log) × Holds bytes log × All (λ block. Has number block → ⊥) log.blocks
FoundAnswer number (Err fault) bytes = ⊤
