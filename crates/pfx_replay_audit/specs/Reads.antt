-- What a fold of a log's disk finds.
use Rattle.std.specs.Prelude.{◌≡◌, ℕ, List, Option, Result, Ok, Err, IfErr}
use Rattle.pfx_disk.specs.Disk.{View, HasFailed}
use Rattle.pfx_jobs.specs.Kind.{Kind}
use Rattle.pfx_kinds.specs.declared.units.Unit.{Unit}
use Rattle.pfx_log.specs.Faults.{IsFault}
use Rattle.pfx_log.specs.Holding.{Begins, Holds, IsEnd}
use Rattle.pfx_log.specs.Logs.{Block, Log, with_block}
use Rattle.pfx_log.specs.Reading.{Keeps, Looks}
use Rattle.pfx_log.specs.declared.faults.LogFault.TheVariants.{Device}
use Rattle.pfx_log.specs.declared.place.LogPlace.{LogPlace}
use Rattle.pfx_machine.specs.Plain.{Plain}
use Rattle.pfx_record.specs.Records.{Recorded}
use Rattle.pfx_replay.specs.declared.verdict.Difference.{Difference}
use Rattle.pfx_replay_audit.specs.Blocks.{AreRead, IsRead}
use Rattle.pfx_replay_audit.specs.Marks.{Agree, IsFirst, behind}
use Rattle.pfx_replay_audit.specs.declared.ends.LogEnd.{LogEnd}
use Rattle.pfx_replay_audit.specs.declared.ends.LogEnd.TheVariants.{Agrees, Differs}
use Rattle.pfx_replay_audit.specs.declared.faults.HistoryFault.{HistoryFault}
use Rattle.pfx_replay_audit.specs.declared.faults.HistoryFault.TheVariants.{Frames, Log as LogIs, NotNext, Start}

-- Calls that only read, of which a fault of the device means that the disk failed; and whatever bytes an honest disk holds, this is so of
-- them and the answer.
pub record Reads {T : Type 0} (old new : View) (result : Result T HistoryFault) (answered : List ℕ → Type 0) : Type 0 where
  pub looks : Looks old new
  pub device : IfErr result (λ fault. fault ≡ LogIs Device → HasFailed old new)
  pub exact : (bytes : List ℕ) → Keeps bytes old → answered bytes

-- a log with these blocks in place of its own
abbrev pub of_blocks : Log → List Block → Log
of_blocks log blocks = record log { blocks = blocks }

module _ {J : Type 0} (K : Kind J) (unit : J → Option Unit) (marks : List (Plain J)) (start : Log) (s : Plain J) (bytes : List ℕ) where
  -- The bytes begin with the log's header and these blocks, which end at this place; they are read from the state on, and these are their
  -- records.
  pub record AreBegun (blocks : List Block) (place : LogPlace) (read : List (Recorded J)) (t : Plain J) : Type 0 where
    pub begins : Begins (of_blocks start blocks) place bytes
    pub are : AreRead K s blocks read t

  -- the bytes hold the log with these blocks, all records of which agree and lead to the state; it ends at this place
  pub record AreWhole (t : Plain J) (end : LogPlace) : Type 0 where
    pub blocks : List Block
    pub read : List (Recorded J)
    pub holds : Holds bytes (of_blocks start blocks)
    pub are : AreRead K s blocks read t
    pub agree : Agree K unit marks s read
    pub state : t ≡ behind K s read
    pub end_is : IsEnd (of_blocks start blocks) end

  -- among the records of the log's first blocks, or the marks, the first that differs has this number
  pub record AreUntil (what : Difference) (n : ℕ) : Type 0 where
    pub blocks : List Block
    pub place : LogPlace
    pub read : List (Recorded J)
    pub reached : Plain J
    pub begun : AreBegun blocks place read reached
    pub first : IsFirst K unit marks what s read n

  -- behind blocks whose records agree there stands one at this place that isn't read from the state there on
  pub record IsUnread (at : ℕ) : Type 0 where
    pub blocks : List Block
    pub place : LogPlace
    pub read : List (Recorded J)
    pub reached : Plain J
    pub begun : AreBegun blocks place read reached
    pub agree : Agree K unit marks s read
    pub block : Block
    pub behind : LogPlace
    pub next : Begins (with_block (of_blocks start blocks) block) behind bytes
    pub unread : (more : List (Recorded J)) (t : Plain J) → IsRead K reached block more t → ⊥
    pub at_is : at ≡ place.at

  -- what is answered of the blocks of a log, whose header is that of the first log; where all agree, this was told of the records
  abbrev pub BlocksAnswer : (Plain J → List (Recorded J) → Type 0) → Result (LogEnd (Plain J)) HistoryFault → Type 0
  BlocksAnswer told (Ok (Agrees t end)) = (whole : AreWhole t end) × told s whole.read
  BlocksAnswer told (Ok (Differs n what)) = AreUntil what n
  BlocksAnswer told (Err (LogIs fault)) = IsFault fault bytes
  BlocksAnswer told (Err Start) = ⊥
  BlocksAnswer told (Err NotNext) = ⊥
  BlocksAnswer told (Err (Frames at)) = IsUnread at
