-- The history that logs record, and a store's file behind them.
use Rattle.std.specs.Prelude.{◌≡◌, ◌≤◌, ◌+◌, ◌-◌, ◌⊎◌, ⊤, ℕ, List, [], ◌∷◌, ◌++◌, length, map, take, drop, slice_get, Option, Some, None}
use Rattle.pfx_jobs.specs.Kind.{Kind}
use Rattle.pfx_log.specs.Holding.{Begins, Holds, IsEnd}
use Rattle.pfx_log.specs.Logs.{Block}
use Rattle.pfx_log.specs.declared.place.LogPlace.{LogPlace}
use Rattle.pfx_machine.specs.Plain.{Plain}
use Rattle.pfx_record.specs.Records.{Recorded, plain}
use Rattle.pfx_replay.specs.Stated.{plain_of}
use Rattle.pfx_replay_audit.specs.Blocks.{AreRead}
use Rattle.pfx_replay_audit.specs.Logs.{HasHeader, log_of}
use Rattle.pfx_replay_audit.specs.Reads.{of_blocks}
use Rattle.pfx_replay_audit.specs.Starts.{read_start}
use Rattle.pfx_replay_audit.specs.declared.file.FileHistory.{FileHistory}

-- the states that a store's file holds, if there is one
abbrev pub marks_in : {J : Type 0} → Option (FileHistory J) → List (Plain J)
marks_in None = []
marks_in (Some file) = map plain_of file.marks.items

-- these are the file's records behind the state, whose number is one of the file's
abbrev pub AreBehind : {J : Type 0} → Option (FileHistory J) → Plain J → List (Recorded J) → Type 0
AreBehind None t rest = rest ≡ []
AreBehind (Some file) t rest = (file.begin ≤ t.number) × (t.number ≤ file.begin + length (map plain file.records.items))
    × (rest ≡ drop (t.number - file.begin) (map plain file.records.items))

-- a log names the head of the one before, which ended at this place; the first may name any
abbrev pub Names : Option LogPlace → List ℕ → Type 0
Names None head = ⊤
Names (Some place) head = head ≡ place.head

module _ {J : Type 0} (K : Kind J) where
  -- The image holds a log behind the one before: it begins at the state s, its records lead to the state t, and it ends at the place.
  pub record HoldsLog (image : List ℕ) (from : Option LogPlace) (s : Plain J) (read : List (Recorded J)) (t : Plain J) (end : LogPlace) : Type 0 where
    pub header : HasHeader image
    pub names : Names from header.before
    pub starts : read_start K header.version header.spelled ≡ Some s
    pub blocks : List Block
    pub holds : Holds image (of_blocks (log_of header) blocks)
    pub are : AreRead K s blocks read t
    pub end_is : IsEnd (of_blocks (log_of header) blocks) end

  -- the image begins with a log's header behind the one before, and with blocks that have these records from the state on
  pub record BeginsLog (image : List ℕ) (from : Option LogPlace) (s : Plain J) (read : List (Recorded J)) : Type 0 where
    pub header : HasHeader image
    pub names : Names from header.before
    pub starts : read_start K header.version header.spelled ≡ Some s
    pub blocks : List Block
    pub place : LogPlace
    pub begins : Begins (of_blocks (log_of header) blocks) place image
    pub reached : Plain J
    pub are : AreRead K s blocks read reached

  -- the images hold logs, one behind the other: each begins at the state that the one before led to
  abbrev pub AreLogs : List (List ℕ) → Option LogPlace → Plain J → List (Recorded J) → Plain J → Option LogPlace → Type 0
  AreLogs [] from s read t end = (read ≡ []) × (s ≡ t) × (from ≡ end)
  AreLogs (image ∷ images) from s read t end =
      (xs ys : List (Recorded J)) × (r : Plain J) × (mid : LogPlace) × HoldsLog image from s xs r mid × AreLogs images (Some mid) r ys t end × (read ≡ xs ++ ys)

  -- all records of the logs from their first state on, and those of the file behind them
  pub record IsWhole (images : List (List ℕ)) (file : Option (FileHistory J)) (s : Plain J) (records : List (Recorded J)) (end : LogPlace) : Type 0 where
    pub read : List (Recorded J)
    pub rest : List (Recorded J)
    pub t : Plain J
    pub logs : AreLogs images None s read t (Some end)
    pub behind : AreBehind file t rest
    pub whole : records ≡ read ++ rest

  -- all records of the first logs, and those of the first blocks of the next
  pub record IsWithin (images : List (List ℕ)) (s : Plain J) (records : List (Recorded J)) : Type 0 where
    pub index : ℕ
    pub image : List ℕ
    pub image_is : slice_get images index ≡ Some image
    pub read : List (Recorded J)
    pub more : List (Recorded J)
    pub t : Plain J
    pub from : Option LogPlace
    pub logs : AreLogs (take index images) None s read t from
    pub begins : BeginsLog image from t more
    pub whole : records ≡ read ++ more

  -- all records of the first logs, behind which the next begins at a state of their last number
  pub record IsUpTo (images : List (List ℕ)) (s : Plain J) (records : List (Recorded J)) (start : Plain J) : Type 0 where
    pub index : ℕ
    pub image : List ℕ
    pub image_is : slice_get images index ≡ Some image
    pub t : Plain J
    pub from : LogPlace
    pub logs : AreLogs (take index images) None s records t (Some from)
    pub header : HasHeader image
    pub names : header.before ≡ from.head
    pub starts : read_start K header.version header.spelled ≡ Some start
    pub number : start.number ≡ t.number

  -- records that begin those of the logs, and the states that are recorded elsewhere: the marks, and the state that the next log begins at
  abbrev pub IsFront : List (List ℕ) → List (Plain J) → Plain J → List (Plain J) → List (Recorded J) → Type 0
  IsFront images marks s all records = ((all ≡ marks) × IsWithin images s records) ⊎ ((start : Plain J) × (all ≡ start ∷ marks) × IsUpTo images s records start)
