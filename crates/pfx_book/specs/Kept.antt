-- What a book's type keeps.
use Rattle.std.specs.Prelude.{◌≡◌, ◌≢◌, ℕ, ◌+◌, ◌^◌, ◌<◌, ◌≤◌, List, [], ◌∷◌, ◌++◌, length, take, Option, None, Some, ⊤, true}
use Rattle.pfx_fault.specs.declared.fields.Cause.{Cause}
use Rattle.pfx_jobs.specs.Kind.{Kind}
use Rattle.pfx_machine.specs.Plain.{Plain, IsState}
use Rattle.pfx_machine.specs.Outcome.{outcome}
use Rattle.pfx_machine.specs.declared.command.Command.{Command}
use Rattle.pfx_record.specs.Records.{Recorded}
use Rattle.pfx_record_redo.specs.Recording.{records_of}
use Rattle.pfx_book_slot.specs.Dealt.{Dealt, Answers, StandsAt}
use Rattle.pfx_book.specs.Merging.{lists_from, Tagged}
use Rattle.pfx_book.specs.declared.note.Loss.{Loss}
use Rattle.pfx_book.specs.declared.note.Note.{Note}
use Rattle.pfx_book.specs.declared.note.Note.TheVariants.{Lost, Marked, Failed}
use Rattle.pfx_book.specs.Notes.{Noted, commands_of, Legal, records_in, AllBacked, entries_of}

module _ {J : Type 0} where
  -- the keeper's lists are the flusher's notes and those of each pass; the notes of the passes are legal from the start, their
  -- commands come to the state, and their records are those that were taken and then those that are pending
  pub record IsTold (K : Kind J) (start : Plain J) (flushed : List (Note J)) (all : List (ℕ × Note J))
      (lists : List (List (Note J))) (passes : ℕ) (state : Plain J) (pending : List (Recorded J)) : Type 0 where
    pub known : lists ≡ flushed ∷ lists_from 1 passes all
    pub tagged : Tagged passes all ≡ true
    pub is_legal : Legal K start [] all
    pub outcome : state ≡ outcome K start (commands_of all)
    pub few : passes < 65
    pub valid : IsState start
    pub records : records_of K start (commands_of all) ≡ records_in flushed ++ pending

  -- a failure is among the flusher's notes
  abbrev pub HasFailed : Option Cause → List (Note J) → Type 0
  HasFailed None notes = ⊤
  HasFailed (Some cause) notes = Noted (Failed cause) notes

  -- the mark is the greatest of the flusher's notes, and at most what was taken; what is accepted is at most 64 beyond it; receipts
  -- and losses are backed; and who was told of a failure was told of this mark
  pub record IsMarked (first : ℕ) (flushed : List (Note J)) (all : List (ℕ × Note J)) (taken marked clock : ℕ) (failure : Option Cause) : Type 0 where
    pub taken_is : taken ≡ length (records_in flushed)
    pub behind : marked ≤ taken
    pub noted : Noted (Marked (first + marked) clock) flushed
    pub greatest : (n c : ℕ) → Noted (Marked n c) flushed → n ≤ first + marked
    pub room : length (commands_of all) ≤ marked + 64
    pub backed : AllBacked flushed all
    pub failed : HasFailed failure flushed
    pub told : (k : ℕ) (loss : Loss) → Noted (k, Lost loss) all → (failure ≢ None) × (loss.marked ≡ first + marked)

  -- the book's invariant, of its session, its keeper's lists and its numbers
  pub record IsKept (K : Kind J) (start : Plain J) (session : List (ℕ × Note J)) (lists : List (List (Note J)))
      (passes : ℕ) (state : Plain J) (pending : List (Recorded J)) (taken marked clock : ℕ) (failure : Option Cause) : Type 0 where
    pub flushed : List (Note J)
    pub all : List (ℕ × Note J)
    pub entries : session ≡ entries_of all
    pub is_told : IsTold K start flushed all lists passes state pending
    pub is_marked : IsMarked start.number flushed all taken marked clock failure

  -- what a book counts from, the number of its start, and the workers of the state after what was taken, which the rows that are taken
  -- next have
  pub record Counts (K : Kind J) (start : Plain J) (accepted : List (Command J)) (began taken width : ℕ) : Type 0 where
    pub first : began ≡ start.number
    pub here : width ≡ (outcome K start (take taken accepted)).ledger.set.workers

  -- a slot is open: it is the state's, there is a place for its entry, it has room before the mark is 64 behind and before the
  -- session is full, and each result that is back is its quantum's
  abbrev pub OpenFits : Kind J → Plain J → ℕ → Option (Dealt J) → ℕ → ℕ → ℕ → Type 0
  OpenFits K state first None marked entries places = ⊤
  OpenFits K state first (Some o) marked entries places = StandsAt K state o × (entries < places)
      × (state.number < first + marked + 64) × (state.number < first + 2 ^ 20) × Answers o.quanta o.back
