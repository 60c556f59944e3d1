-- What the book's calls do.
use Rattle.std.specs.Prelude.{◌≡◌, ◌≢◌, ◌⊎◌, ℕ, ◌^◌, ◌<◌, ◌≤◌, ◌+◌, List, [], ◌∷◌, ◌++◌, length, map, take, drop, slice_get, Option, None, Some, nat_le, ⊤, false}
use Rattle.std.specs.Global.{Vec}
use Rattle.pfx_crew.specs.Gathering.{Refuses as Repels}
use Rattle.pfx_crew.specs.declared.gathering.GatherFault.{GatherFault}
use Rattle.pfx_crew.specs.declared.gathering.GatherFault.TheVariants.{Stranger}
use Rattle.pfx_jobs.specs.Kind.{Kind}
use Rattle.pfx_machine.specs.declared.command.Command.{Command}
use Rattle.pfx_machine.specs.Batches.{IsBatchable}
use Rattle.pfx_machine.specs.Plain.{Plain}
use Rattle.pfx_machine.specs.Outcome.{outcome}
use Rattle.pfx_machine.specs.Refusals.{reply}
use Rattle.pfx_machine.specs.declared.command.Reply.{Reply}
use Rattle.pfx_machine.specs.Slots.{Deal}
use Rattle.pfx_record.specs.declared.record.Record.{Record}
use Rattle.pfx_record.specs.Records.{plain, Recorded}
use Rattle.pfx_record_redo.specs.Recording.{records_of}
use Rattle.pfx_events_world.specs.Session.{Session, Opened, AllBack, MayGive, begun, gave, receipted, took}
use Rattle.pfx_book.specs.declared.faults.BookFault.{BookFault}
use Rattle.pfx_book.specs.declared.faults.BookFault.TheVariants.{NoMemory}
use Rattle.pfx_book.specs.declared.note.Loss.{Loss}
use Rattle.pfx_book.specs.declared.note.Note.{Note}
use Rattle.pfx_book.specs.declared.note.Note.TheVariants.{Accepted, Refused, Receipt, Lost, Took}
use Rattle.pfx_book.specs.Notes.{greatest, refused_at, GoesOn}
use Rattle.pfx_book.specs.Register.{Register, HasRoom}

module _ {J : Type 0} where
  -- the book with another session of the events, and one entry more, of this pass
  abbrev pub entered : ℕ → Note J → Session J → Register J → Register J
  entered pass e session r = record r { session = session; history = r.history ++ (pass, e) ∷ [] }

  -- a pass with one note more
  abbrev pub noted : Note J → ℕ × List (Note J) → ℕ × List (Note J)
  noted e pass = (pass.0, pass.1 ++ e ∷ [])

  -- why this session refuses a command
  abbrev pub refused_by : Kind J → Session J → Command J → Option BookFault
  refused_by K b c = refused_at (nat_le (2 ^ 20) (length b.accepted)) K b.state c

  -- after a refusal: want of memory changes nothing; another is the one that the session has for the command, and it and the
  -- pass have it as an entry
  abbrev pub Refuses : Kind J → Command J → Register J → Register J → ℕ × List (Note J) → ℕ × List (Note J) → BookFault → Type 0
  Refuses K c old new pass later fault =
      ((fault ≡ NoMemory) × (new ≡ old) × (later ≡ pass))
      ⊎ ((refused_by K old.session c ≡ Some fault)
      × (new ≡ entered pass.0 (Refused old.session.state.number c fault) old.session old) × (later ≡ noted (Refused old.session.state.number c fault) pass))

  -- a pass's list once its client was told of this failure: the first time it is noted
  abbrev pub once_lost : Option Loss → Loss → List (Note J) → List (Note J)
  once_lost None loss notes = notes ++ Lost loss ∷ []
  once_lost (Some before) loss notes = notes

  -- no result of the open slot is missing, if one is open
  abbrev pub NoneMissing : Option (Opened J) → Type 0
  NoneMissing None = ⊤
  NoneMissing (Some o) = AllBack o.back

  -- this is the first quantum of the open slot whose result isn't back
  abbrev pub IsFirstMissing : Option (Opened J) → Deal J → Type 0
  IsFirstMissing None d = ⊥
  IsFirstMissing (Some o) d = (place : ℕ) × (slice_get o.quanta place ≡ Some d) × (slice_get o.back place ≡ Some None)
      × ((k : ℕ) → k < place → slice_get o.back k ≢ Some None)

  -- what was taken of some commands goes as far as a batch may: there are 16, or no more, or the next one may not be of the batch
  abbrev pub ReachesFar : List (Command J) → List (Command J) → Type 0
  ReachesFar batch [] = ⊤
  ReachesFar batch (c ∷ rest) = (16 ≤ length batch) ⊎ (IsBatchable (batch ++ c ∷ []) → ⊥)

  -- this quantum's result comes back: the quantum, stepped
  abbrev pub ComesBack : Kind J → Deal J → Register J → Register J → Type 0
  ComesBack K d old new = (place : ℕ) × MayGive old.session place d × (new ≡ record old { session = gave place (K.stepped d.before) old.session })

  -- why a result doesn't come back: it is no quantum's of the open slot, or its place is taken
  abbrev pub IsRepelled : Option (Opened J) → Deal J → GatherFault → Type 0
  IsRepelled None d fault = fault ≡ Stranger d.task
  IsRepelled (Some o) d fault = Repels o.quanta d o.back fault

  -- the records of the next n accepted commands after those that were taken
  abbrev pub next_records : Kind J → Plain J → ℕ → Session J → List (Recorded J)
  next_records K start n b = records_of K (outcome K start (take b.taken b.accepted)) (take n (drop b.taken b.accepted))

  -- A book takes commands: no slot is open, it has room for one more, the flusher has not given up, and the book is not shut.
  pub record TakesCommands (r : Register J) : Type 0 where
    pub none_open : r.session.opened ≡ None
    pub room : HasRoom r.session
    pub goes_on : r.failure ≡ None
    pub not_shut : r.shut ≡ false

  -- The command was accepted: it has the next number, greater than any of the pass, and the machine's reply. The session moves to the
  -- next one, with an entry of the pass, and the pass notes it.
  pub record IsAccepted (c : Command J) (next : Session J) (old new : Register J) (pass later : ℕ × List (Note J)) (r : ℕ × Reply) : Type 0 where
    pub number : r.0 ≡ old.session.state.number + 1
    pub reply : r.1 ≡ reply old.session.state c
    pub rises : greatest pass.1 < r.0
    pub event : new ≡ entered pass.0 (Accepted r.0 c r.1) next old
    pub noted : later ≡ noted (Accepted r.0 c r.1) pass

  -- A slot is begun for this pass, which has no note of it before its end.
  pub record IsBegun (K : Kind J) (old new : Register J) (pass later : ℕ × List (Note J)) : Type 0 where
    pub event : new ≡ record old { session = begun K old.session; opener = pass.0 }
    pub silent : later ≡ pass

  -- The receipt of a number, with the clock of the last mark, is an entry of the pass, and the pass notes it.
  pub record IsReceipted (number : ℕ) (old new : Register J) (pass later : ℕ × List (Note J)) : Type 0 where
    pub event : new ≡ entered pass.0 (Receipt number old.session.marked_at) (receipted number old.session) old
    pub noted : later ≡ noted (Receipt number old.session.marked_at) pass

  -- The records of the next accepted commands were taken as a batch, which may come next after what the flusher noted and is noted.
  -- They are of a Reweigh alone, or there is none among them, and are as many as may be. All that was taken before is marked.
  pub record IsTaken (K : Kind J) (start : Plain J) (workers real first : ℕ) (records : Vec (Record J)) (old new : Register J) (share later : List (Note J))
      : Type 0 where
    pub event : new ≡ record old { session = took (length records.items) old.session }
    pub noted : later ≡ share ++ Took first records ∷ []
    pub batchable : IsBatchable (take (length records.items) (drop old.session.taken old.session.accepted))
    pub far : ReachesFar (take (length records.items) (drop old.session.taken old.session.accepted))
        (drop (length records.items) (drop old.session.taken old.session.accepted))
    pub commands : map plain records.items ≡ next_records K start (length records.items) old.session
    pub next : GoesOn K start share workers real first (map plain records.items)
    pub rested : old.session.marked ≡ old.session.taken
