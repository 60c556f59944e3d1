-- What a fold of the records that a store's file has behind a log's end finds.
use Rattle.std.specs.Prelude.{◌≡◌, ◌⊎◌, ◌<◌, ◌≤◌, ◌+◌, ◌-◌, ℕ, List, length, drop, Option, None, Result, Ok, Err, ⊤}
use Rattle.pfx_jobs.specs.Kind.{Kind}
use Rattle.pfx_kinds.specs.declared.units.Unit.{Unit}
use Rattle.pfx_machine.specs.Plain.{Plain}
use Rattle.pfx_record.specs.Records.{Recorded}
use Rattle.pfx_record_redo.specs.Applying.{applied}
use Rattle.pfx_replay.specs.declared.verdict.Verdict.{Verdict}
use Rattle.pfx_replay.specs.declared.verdict.Verdict.TheVariants.{Agrees, Differs}
use Rattle.pfx_replay_audit.specs.Marks.{Agree, IsFirst, behind}
use Rattle.pfx_replay_audit.specs.declared.file_fault.FileFault.{FileFault}
use Rattle.pfx_replay_audit.specs.declared.file_fault.FileFault.TheVariants.{Apart, Gap, NoMemory}

module _ {J : Type 0} (K : Kind J) (unit : J → Option Unit) (marks : List (Plain J)) (told : Plain J → List (Recorded J) → Type 0) (from : Plain J) where
  -- Of records behind a state: they agree, the last has this number, and this was told of them; or the first that differs has it; or they
  -- aren't right there.
  abbrev pub JudgedBehind : List (Recorded J) → Result Verdict FileFault → Type 0
  JudgedBehind rest (Ok (Agrees n)) = Agree K unit marks from rest × (n ≡ (behind K from rest).number) × told from rest
  JudgedBehind rest (Ok (Differs n what)) = IsFirst K unit marks what from rest n
  JudgedBehind rest (Err NoMemory) = ⊤
  JudgedBehind rest (Err (Gap log file)) = ⊥
  JudgedBehind rest (Err Apart) = applied K from rest ≡ None

  module _ (begin : ℕ) (records : List (Recorded J)) where
    -- the state's number is one of the file's, and this is so of the records behind it
    pub record IsBehind (result : Result Verdict FileFault) : Type 0 where
      pub low : begin ≤ from.number
      pub high : from.number ≤ begin + length records
      pub judged : JudgedBehind (drop (from.number - begin) records) result

    -- the file begins behind the number, or ends before it
    abbrev pub IsGap : ℕ → Type 0
    IsGap file = ((from.number < begin) × (file ≡ begin)) ⊎ ((begin + length records < from.number) × (file ≡ begin + length records))

    -- what is answered of a file that has these records behind a number
    abbrev pub BehindAnswer : Result Verdict FileFault → Type 0
    BehindAnswer (Ok verdict) = IsBehind (Ok verdict)
    BehindAnswer (Err NoMemory) = ⊤
    BehindAnswer (Err (Gap log file)) = (log ≡ from.number) × IsGap file
    BehindAnswer (Err Apart) = IsBehind (Err Apart)
