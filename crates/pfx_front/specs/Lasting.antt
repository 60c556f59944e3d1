-- What a list of the disk's calls keeps, whatever comes after it.
use Rattle.std.specs.Prelude.{◌≡◌, ◌≤◌, ℕ, ◌+◌, List, [], length, take, Option, Some}
use Rattle.pfx_front_board.specs.Lasting.{Recovers}
use Rattle.pfx_front_board.specs.Word.{records_of as records_of_batches}
use Rattle.pfx_book.specs.Notes.{Legal, Noted, commands_of}
use Rattle.pfx_book.specs.declared.note.Note.{Note}
use Rattle.pfx_book.specs.declared.note.Note.TheVariants.{Marked}
use Rattle.pfx_disk_chronicle.specs.Chart.{acts_of}
use Rattle.pfx_disk_chronicle.specs.declared.made.Made.{Made}
use Rattle.pfx_disk.specs.Stop.{Left}
use Rattle.pfx_jobs.specs.Kind.{Kind}
use Rattle.pfx_machine.specs.Plain.{Plain}
use Rattle.pfx_machine.specs.declared.command.Command.{Command}
use Rattle.pfx_record.specs.declared.batch.Batch.{Batch}
use Rattle.pfx_record_redo.specs.Recording.{records_of}
use Rattle.pfx_store.specs.declared.appending.Mark.{Mark}
use Rattle.pfx_front.specs.Closing.{Survives}

module _ {J : Type 0} (K : Kind J) (origin : Plain J) where
  -- an image is recovered to the state after these batches, which has this number, or a later one
  pub record HasNumber (batches : List (Batch J)) (n : ℕ) (image : List ℕ) : Type 0 where
    pub recovers : Recovers K origin batches image
    pub number : n ≤ recovers.state.number

  -- a disk that held this, under a premise, and on which these calls were made, leaves nothing but images of the state after the batches, which has the number
  abbrev pub IsAcknowledged : Type 0 → List ℕ → List Made → List (Batch J) → ℕ → Type 0
  IsAcknowledged held start made batches n = held → (image : List ℕ) → Left start (acts_of made) image → ∥ HasNumber batches n image ∥₁

-- each of these marks is among the flusher's notes
abbrev pub AreNoted : {J : Type 0} → List Mark → List (Note J) → Type 0
AreNoted marks notes = (mark : Mark) → Noted mark marks → Noted (Marked mark.number mark.clock) notes

-- the last of the marks, if there is one, is among them
abbrev pub IsLast : List Mark → Option Mark → Type 0
IsLast marks last = (mark : Mark) → last ≡ Some mark → ∥ Noted mark marks ∥₁

module _ {J : Type 0} (K : Kind J) (start : Plain J) where
  -- batches have the records of first commands of a session
  abbrev pub AreOf : List (ℕ × Note J) → List (Batch J) → Type 0
  AreOf entries batches = (n : ℕ) × (n ≤ length (commands_of entries)) × (records_of_batches batches ≡ records_of K start (take n (commands_of entries)))

  -- they are those of first accepted commands: there is a session of them whose entries are right at their places
  abbrev pub AreAccepted : List (Batch J) → Type 0
  AreAccepted batches = ∥ ((entries : List (ℕ × Note J)) × Legal K start [] entries × AreOf entries batches) ∥₁

module _ {J : Type 0} (K : Kind J) (start : Plain J) (image : List ℕ) (first : ℕ) where
  -- Since a clock, which stood at `first` before these calls, a number is kept: what a stop may leave after so many of them is recovered to the outcome of
  -- first commands, that number among them.
  abbrev pub KeepsSince : List Made → List (Command J) → ℕ → ℕ → Type 0
  KeepsSince made H clock n = (k : ℕ) → clock ≤ first + k → k ≤ length made → (left : List ℕ) → Left image (take k (acts_of made)) left → Survives K start H n left

  -- A session's entries, right at their places. The published batches have the records of first commands of it, and each mark is kept
  -- since its clock, if the disk held the image.
  pub record IsLasting (held : Type 0) (marks : List Mark) (made : List Made) (batches : List (Batch J)) : Type 0 where
    pub entries : List (ℕ × Note J)
    pub legal : Legal K start [] entries
    pub published : AreOf K start entries batches
    pub keeps : held → (mark : Mark) → Noted mark marks → KeepsSince made (commands_of entries) mark.clock mark.number

  -- If the disk held the image, there is a session whose entries are right at their places, and of which, at every moment from one count of
  -- calls on, whatever a stop may leave has first commands, this number among them.
  abbrev pub HoldsFrom : Type 0 → List Made → ℕ → ℕ → Type 0
  HoldsFrom held made from n = held → ∥ ((entries : List (ℕ × Note J)) × Legal K start [] entries × KeepsSince made (commands_of entries) (first + from) n) ∥₁
