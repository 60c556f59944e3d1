-- What a fold of a whole log finds.
use Rattle.std.specs.Prelude.{◌≡◌, ◌≢◌, ◌⊎◌, ℕ, List, Option, Some, None, Result, Ok, Err}
use Rattle.pfx_jobs.specs.Kind.{Kind}
use Rattle.pfx_kinds.specs.declared.units.Unit.{Unit}
use Rattle.pfx_log.specs.Faults.{IsFault}
use Rattle.pfx_log.specs.Holding.{Begins}
use Rattle.pfx_log.specs.Logs.{Log, new_log}
use Rattle.pfx_log.specs.declared.place.LogHeader.{LogHeader}
use Rattle.pfx_log.specs.declared.place.LogPlace.{LogPlace}
use Rattle.pfx_machine.specs.Plain.{Plain}
use Rattle.pfx_record.specs.Records.{Recorded}
use Rattle.pfx_replay.specs.declared.verdict.Difference.TheVariants.{Checkpoint}
use Rattle.pfx_replay_audit.specs.Reads.{BlocksAnswer}
use Rattle.pfx_replay_audit.specs.Starts.{read_start}
use Rattle.pfx_replay_audit.specs.declared.ends.LogEnd.{LogEnd}
use Rattle.pfx_replay_audit.specs.declared.ends.LogEnd.TheVariants.{Agrees, Differs}
use Rattle.pfx_replay_audit.specs.declared.faults.HistoryFault.{HistoryFault}
use Rattle.pfx_replay_audit.specs.declared.faults.HistoryFault.TheVariants.{Frames, Log as LogIs, NotNext, Start}

-- the header that the bytes begin with, and the place behind it, or why there is none
abbrev pub HeaderAnswer : Result (LogHeader × LogPlace × ℕ) HistoryFault → List ℕ → Type 0
HeaderAnswer (Ok x) bytes = Begins (new_log x.0.version x.0.state.items x.0.before) x.1 bytes
HeaderAnswer (Err (LogIs fault)) bytes = IsFault fault bytes
HeaderAnswer (Err Start) bytes = ⊥
HeaderAnswer (Err NotNext) bytes = ⊥
HeaderAnswer (Err (Frames at)) bytes = ⊥

-- the bytes begin with the header of this version of a store's file, with these bytes of a state and this head
pub record HasHeader (bytes : List ℕ) : Type 0 where
  pub version : ℕ
  pub spelled : List ℕ
  pub before : List ℕ
  pub place : LogPlace
  pub begins : Begins (new_log version spelled before) place bytes

-- the log of a header, with no blocks
abbrev pub log_of : {bytes : List ℕ} → HasHeader bytes → Log
log_of h = new_log h.version h.spelled h.before

module _ {J : Type 0} (K : Kind J) (unit : J → Option Unit) (marks : List (Plain J)) (told : Plain J → List (Recorded J) → Type 0) where
  -- the header names a state, and this is so of the blocks behind it
  pub record IsFolded (bytes : List ℕ) (result : Result (LogEnd (Plain J)) HistoryFault) : Type 0 where
    pub header : HasHeader bytes
    pub start : Plain J
    pub starts : read_start K header.version header.spelled ≡ Some start
    pub answer : BlocksAnswer K unit marks (log_of header) start bytes told result

  -- there is a header, and no state in it
  abbrev pub HasNoStart : List ℕ → Type 0
  HasNoStart bytes = (header : HasHeader bytes) × (read_start K header.version header.spelled ≡ None)

  -- what is answered of the first log
  abbrev pub FirstAnswer : List ℕ → Result (LogEnd (Plain J)) HistoryFault → Type 0
  FirstAnswer bytes (Ok end) = IsFolded bytes (Ok end)
  FirstAnswer bytes (Err (LogIs fault)) = IsFault fault bytes
  FirstAnswer bytes (Err Start) = HasNoStart bytes
  FirstAnswer bytes (Err NotNext) = ⊥
  FirstAnswer bytes (Err (Frames at)) = IsFolded bytes (Err (Frames at))

  module _ (from : Plain J) (head : List ℕ) where
    -- the header names the head and the state that the log before ended with, and this is so of the blocks behind it
    pub record IsFoldedOn (bytes : List ℕ) (result : Result (LogEnd (Plain J)) HistoryFault) : Type 0 where
      pub header : HasHeader bytes
      pub starts : read_start K header.version header.spelled ≡ Some from
      pub head_is : header.before ≡ head
      pub answer : BlocksAnswer K unit marks (log_of header) from bytes told result

    -- the header names the head, and a state of the same number that is another one
    pub record IsOtherStart (bytes : List ℕ) (n : ℕ) : Type 0 where
      pub header : HasHeader bytes
      pub start : Plain J
      pub starts : read_start K header.version header.spelled ≡ Some start
      pub head_is : header.before ≡ head
      pub number : n ≡ from.number
      pub same : start.number ≡ from.number
      pub other : start ≢ from

    -- the header names another head, or a state of another number
    pub record IsNotNext (bytes : List ℕ) : Type 0 where
      pub header : HasHeader bytes
      pub start : Plain J
      pub starts : read_start K header.version header.spelled ≡ Some start
      pub not_next : (header.before ≢ head) ⊎ (start.number ≢ from.number)

    -- what is answered of a log behind another one
    abbrev pub NextAnswer : List ℕ → Result (LogEnd (Plain J)) HistoryFault → Type 0
    NextAnswer bytes (Ok (Agrees t last)) = IsFoldedOn bytes (Ok (Agrees t last))
    NextAnswer bytes (Ok (Differs n what)) = IsFoldedOn bytes (Ok (Differs n what)) ⊎ ((what ≡ Checkpoint) × IsOtherStart bytes n)
    NextAnswer bytes (Err (LogIs fault)) = IsFault fault bytes
    NextAnswer bytes (Err Start) = HasNoStart bytes
    NextAnswer bytes (Err NotNext) = IsNotNext bytes
    NextAnswer bytes (Err (Frames at)) = IsFoldedOn bytes (Err (Frames at))
