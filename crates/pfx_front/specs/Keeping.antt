-- A store that keeps what the flusher's notes say.
use Rattle.std.specs.Prelude.{◌≡◌, ◌⊎◌, ◌≤◌, ◌<◌, ℕ, ◌+◌, List, [], ◌∷◌, ◌++◌, length, map, Option, Some, Bool, false, ⊤}
use Rattle.pfx_disk.specs.Disk.{View, IsHonest, IsSpent}
use Rattle.pfx_record_redo.specs.Applying.{applied}
use Rattle.pfx_fault.specs.declared.fields.Cause.{Cause}
use Rattle.pfx_fault.specs.declared.fields.Cause.TheVariants.{Device, Memory, Log}
use Rattle.pfx_jobs.specs.Kind.{Kind}
use Rattle.pfx_machine.specs.Plain.{Plain}
use Rattle.pfx_record.specs.Batches.{batch_bytes, batch_of}
use Rattle.pfx_record.specs.Records.{plain}
use Rattle.pfx_store.specs.Marks.{AreKept, Covers}
use Rattle.pfx_store.specs.declared.appending.Mark.{Mark}
use Rattle.pfx_book.specs.declared.note.Note.{Note}
use Rattle.pfx_book.specs.declared.note.Note.TheVariants.{Took, Marked, Failed}
use Rattle.pfx_book.specs.Batching.{MayShare}
use Rattle.pfx_book.specs.Notes.{IsRested, Noted, records_in, taken_in}

module _ {J : Type 0} where
  -- the frame of a batch that was taken
  abbrev pub frame_in : Kind J → Note J → List (List ℕ)
  frame_in K (Took first records) = batch_bytes K (batch_of first records.items) ∷ []
  frame_in K other = []

  -- the frames of the batches, in order
  abbrev pub frames_of : Kind J → List (Note J) → List (List ℕ)
  frames_of K [] = []
  frames_of K (x ∷ xs) = frame_in K x ++ frames_of K xs

  -- the mark that a note tells
  abbrev pub mark_in : Note J → List Mark
  mark_in (Marked number clock) = record { number = number; clock = clock } ∷ []
  mark_in other = []

  -- the marks, the last one first
  abbrev pub marks_of : List (Note J) → List Mark
  marks_of [] = []
  marks_of (x ∷ xs) = marks_of xs ++ mark_in x

  -- a batch that is taken has the next numbers, 1 to 16 of them, and is of new weights alone or has none
  abbrev pub IsNext : ℕ → Note J → Type 0
  IsNext n (Took first records) = (first ≡ n + 1) × (0 < length records.items) × (length records.items ≤ 16) × MayShare (map plain records.items)
  IsNext n other = ⊤

  abbrev pub AreCounted : ℕ → List (Note J) → Type 0
  AreCounted n [] = ⊤
  AreCounted n (x ∷ xs) = IsNext n x × AreCounted (n + length (taken_in x)) xs

  -- the store has all that was taken, which is marked: its state is where the records lead, its file has their frames, and keeps
  -- each mark
  pub record InStep (K : Kind J) (start : Plain J) (failures clock : ℕ) (notes : List (Note J)) (broken : Bool) (s : Plain J) (disk : View) : Type 0 where
    pub state : applied K start (records_in notes) ≡ Some s
    pub counted : AreCounted start.number notes
    pub whole : broken ≡ false
    pub low : (n c : ℕ) → Noted (Marked n c) notes → n ≤ s.number
    pub rested : IsRested start.number notes
    pub unfailed : (cause : Cause) → Noted (Failed cause) notes → ⊥
    pub began : Noted (Marked start.number clock) notes
    pub since : failures ≤ disk.failures
    pub covers : IsHonest disk → Covers K start (frames_of K notes) (marks_of notes) broken s disk

  -- the store has a beginning of what was taken, which may be all of it, and keeps each mark; a device that is said to have
  -- failed has; where memory is said to have been refused, or the log to have failed, which has then, the store is whole
  pub record Behind (K : Kind J) (start : Plain J) (failures clock : ℕ) (notes : List (Note J)) (failed : Option Cause) (broken : Bool) (s : Plain J)
      (disk : View) : Type 0 where
    pub at : List (Note J)
    pub rest : List (Note J)
    pub begins : at ++ rest ≡ notes
    pub state : applied K start (records_in at) ≡ Some s
    pub counted : AreCounted start.number notes
    pub low : (n c : ℕ) → Noted (Marked n c) notes → n ≤ s.number
    pub began : Noted (Marked start.number clock) notes
    pub device : Noted (Failed Device) notes → (failures < disk.failures) ⊎ IsSpent disk
    pub memory : Noted (Failed Memory) notes → broken ≡ false
    pub log : Noted (Failed Log) notes → (failed ≡ Some Log) × (broken ≡ false)
    pub kept : IsHonest disk → AreKept K start (frames_of K notes) (marks_of notes) disk
