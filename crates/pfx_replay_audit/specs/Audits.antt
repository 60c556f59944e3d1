-- What an audit of a whole history finds.
use Rattle.std.specs.Prelude.{◌≡◌, ◌⊎◌, ℕ, List, [], map, slice_get, slice_index_or, take, All, Option, Some, None, Result, Ok, Err, IfErr}
use Rattle.pfx_disk.specs.Disk.{View, HasFailed, IsHonest}
use Rattle.pfx_jobs.specs.Kind.{Kind}
use Rattle.pfx_kinds.specs.declared.units.Unit.{Unit}
use Rattle.pfx_log.specs.Reading.{Looks}
use Rattle.pfx_log.specs.declared.faults.LogFault.TheVariants.{Device}
use Rattle.pfx_log.specs.declared.place.LogPlace.{LogPlace}
use Rattle.pfx_machine.specs.Plain.{Plain}
use Rattle.pfx_record.specs.Records.{Recorded, plain}
use Rattle.pfx_replay.specs.Stated.{plain_of}
use Rattle.pfx_replay.specs.declared.verdict.Difference.{Difference}
use Rattle.pfx_replay.specs.declared.verdict.Verdict.{Verdict}
use Rattle.pfx_replay.specs.declared.verdict.Verdict.TheVariants.{Agrees as Holds, Differs as Breaks}
use Rattle.pfx_replay_audit.specs.Behind.{BehindAnswer}
use Rattle.pfx_replay_audit.specs.Histories.{AreLogs, IsFront, IsWhole, marks_in}
use Rattle.pfx_replay_audit.specs.Logs.{FirstAnswer, NextAnswer}
use Rattle.pfx_replay_audit.specs.Marks.{Agree, IsFirst, behind}
use Rattle.pfx_replay_audit.specs.Watches.{untold}
use Rattle.pfx_replay_audit.specs.declared.audit_fault.AuditFault.{AuditFault}
use Rattle.pfx_replay_audit.specs.declared.audit_fault.AuditFault.TheVariants.{File, Log as LogAt}
use Rattle.pfx_replay_audit.specs.declared.ends.HistoryEnd.{HistoryEnd}
use Rattle.pfx_replay_audit.specs.declared.ends.HistoryEnd.TheVariants.{Agrees as AllAgrees, Differs as FirstDiffers}
use Rattle.pfx_replay_audit.specs.declared.ends.LogEnd.{LogEnd}
use Rattle.pfx_replay_audit.specs.declared.ends.LogEnd.TheVariants.{Agrees, Differs}
use Rattle.pfx_replay_audit.specs.declared.faults.HistoryFault.{HistoryFault}
use Rattle.pfx_replay_audit.specs.declared.faults.HistoryFault.TheVariants.{Log as LogIs}
use Rattle.pfx_replay_audit.specs.declared.file.FileHistory.{FileHistory}
use Rattle.pfx_replay_audit.specs.declared.file_fault.FileFault.{FileFault}

-- Calls that only read each of these disks, of which a fault of the device means that the disk of the log that it names failed; and where
-- the disks are honest, this is so of what they hold.
pub record ReadsEach {L T : Type 0} (view : L → View) (old new : List L) (result : Result T AuditFault) (answered : List (List ℕ) → Type 0) : Type 0 where
  pub looks : (k : ℕ) (d : L) → Looks (view (slice_index_or old k d)) (view (slice_index_or new k d))
  pub device : IfErr result (λ fault. (k : ℕ) (d : L) → fault ≡ LogAt k (LogIs Device) → HasFailed (view (slice_index_or old k d)) (view (slice_index_or new k d)))
  pub exact : All (λ d. IsHonest (view d)) old → answered (map (λ d. (view d).contents) old)

module _ {J : Type 0} (K : Kind J) (unit : J → Option Unit) where
  -- what a file has behind the state that the logs led to
  abbrev pub FileAnswer : (Plain J → List (Recorded J) → Type 0) → Option (FileHistory J) → Plain J → Result Verdict FileFault → Type 0
  FileAnswer told None from (Ok (Holds n)) = (n ≡ from.number) × told from []
  FileAnswer told None from (Ok (Breaks n what)) = ⊥
  FileAnswer told None from (Err fault) = ⊥
  FileAnswer told (Some file) from result = BehindAnswer K unit (map plain_of file.marks.items) told from file.begin (map plain file.records.items) result

  -- the same, with the place where the last log ends
  abbrev pub EndAnswer : (Plain J → List (Recorded J) → Type 0) → Option (FileHistory J) → Plain J → LogPlace → Result HistoryEnd AuditFault → Type 0
  EndAnswer told file from log (Ok (AllAgrees n end)) = FileAnswer told file from (Ok (Holds n)) × (end ≡ log)
  EndAnswer told file from log (Ok (FirstDiffers n what)) = FileAnswer told file from (Ok (Breaks n what))
  EndAnswer told file from log (Err (LogAt index fault)) = ⊥
  EndAnswer told file from log (Err (File fault)) = FileAnswer told file from (Err fault)

  module _ (marks : List (Plain J)) (images : List (List ℕ)) where
    -- the logs agree, and lead to the state; the last ends at the place
    pub record AreAgreed (t : Plain J) (end : LogPlace) : Type 0 where
      pub s : Plain J
      pub read : List (Recorded J)
      pub logs : AreLogs K images None s read t (Some end)
      pub agree : Agree K unit marks s read
      pub state : t ≡ behind K s read

    -- in a front of the logs' records, or of the marks, the first that differs has this number
    pub record IsFirstOf (what : Difference) (n : ℕ) : Type 0 where
      pub s : Plain J
      pub all : List (Plain J)
      pub records : List (Recorded J)
      pub front : IsFront K images marks s all records
      pub first : IsFirst K unit all what s records n

  module _ (marks : List (Plain J)) (images : List (List ℕ)) where
    -- why the first log isn't read
    pub record IsNoFirst (fault : HistoryFault) : Type 0 where
      pub image : List ℕ
      pub image_is : slice_get images 0 ≡ Some image
      pub answer : FirstAnswer K unit marks untold image (Err fault)

    -- the logs before this one agree, and this is why it isn't read behind them
    pub record IsNoNext (index : ℕ) (fault : HistoryFault) : Type 0 where
      pub image : List ℕ
      pub image_is : slice_get images index ≡ Some image
      pub from : Plain J
      pub place : LogPlace
      pub before : AreAgreed marks (take index images) from place
      pub answer : NextAnswer K unit marks untold from place.head image (Err fault)

    -- why the log of this index isn't read
    abbrev pub IsUnreadLog : ℕ → HistoryFault → Type 0
    IsUnreadLog index fault = ((index ≡ 0) × IsNoFirst fault) ⊎ IsNoNext index fault

    -- what is answered of logs; where all agree, this was told of their records
    abbrev pub LogsAnswer : (Plain J → List (Recorded J) → Type 0) → Result (LogEnd (Plain J)) AuditFault → Type 0
    LogsAnswer told (Ok (Agrees t end)) = (agreed : AreAgreed marks images t end) × told agreed.s agreed.read
    LogsAnswer told (Ok (Differs n what)) = IsFirstOf marks images what n
    LogsAnswer told (Err (LogAt index fault)) = IsUnreadLog index fault
    LogsAnswer told (Err (File fault)) = ⊥

  module _ (images : List (List ℕ)) (file : Option (FileHistory J)) where
    -- all records agree, and the last has this number; the last log ends at the place
    pub record IsAgreed (n : ℕ) (end : LogPlace) : Type 0 where
      pub s : Plain J
      pub records : List (Recorded J)
      pub whole : IsWhole K images file s records end
      pub agree : Agree K unit (marks_in file) s records
      pub number : n ≡ (behind K s records).number

    -- of all records, or of the marks, the first that differs has this number
    pub record IsFirstOfAll (what : Difference) (n : ℕ) : Type 0 where
      pub s : Plain J
      pub records : List (Recorded J)
      pub end : LogPlace
      pub whole : IsWhole K images file s records end
      pub first : IsFirst K unit (marks_in file) what s records n

    -- the logs agree, and this is why the file isn't their end
    pub record IsNoEnd (fault : FileFault) : Type 0 where
      pub from : Plain J
      pub place : LogPlace
      pub before : AreAgreed (marks_in file) images from place
      pub answer : FileAnswer untold file from (Err fault)

    -- what is answered of a whole history; where all agrees, this was told of all records
    abbrev pub AuditAnswer : (Plain J → List (Recorded J) → Type 0) → Result HistoryEnd AuditFault → Type 0
    AuditAnswer told (Ok (AllAgrees n end)) = (agreed : IsAgreed n end) × told agreed.s agreed.records
    AuditAnswer told (Ok (FirstDiffers n what)) = IsFirstOf (marks_in file) images what n ⊎ IsFirstOfAll what n
    AuditAnswer told (Err (LogAt index fault)) = IsUnreadLog (marks_in file) images index fault
    AuditAnswer told (Err (File fault)) = IsNoEnd fault
