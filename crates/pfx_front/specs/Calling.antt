-- What a client knows whose call was refused.
use Rattle.std.specs.Prelude.{◌≡◌, ◌<◌, ℕ, List, Some}
use Rattle.pfx_jobs.specs.Kind.{Kind}
use Rattle.pfx_machine.specs.declared.command.Command.{Command}
use Rattle.pfx_book.specs.declared.faults.BookFault.{BookFault}
use Rattle.pfx_book.specs.declared.faults.BookFault.TheVariants as bookfault
use Rattle.pfx_book.specs.declared.note.Note.{Note}
use Rattle.pfx_book.specs.declared.note.Note.TheVariants as note
use Rattle.pfx_book.specs.Notes.{answers_of, lost_in}
use Rattle.pfx_book.specs.Calls.{entered, noted, refused_by}
use Rattle.pfx_book.specs.Register.{Register}
use Rattle.pfx_front.specs.declared.faults.CallFault.{CallFault}
use Rattle.pfx_front.specs.declared.faults.CallFault.TheVariants.{Refused, NoMemory, StoreFailed}

-- what a client is told of the book's refusal: want of memory is no refusal
abbrev pub told_of : BookFault → CallFault
told_of bookfault.NoMemory = NoMemory
told_of other = Refused other

module _ {J : Type 0} where
  -- the book refuses a command of this pass, with an entry of the pass, and nothing else; or for want of memory, and nothing changes
  abbrev pub IsRefusedBy : Kind J → Command J → Register J → Register J → ℕ × List (Note J) → ℕ × List (Note J) → CallFault → Type 0
  IsRefusedBy K c old new pass later (Refused fault) = (refused_by K old.session c ≡ Some fault)
      × (new ≡ entered pass.0 (note.Refused old.session.state.number c fault) old.session old) × (later ≡ noted (note.Refused old.session.state.number c fault) pass)
  IsRefusedBy K c old new pass later NoMemory = (new ≡ old) × (later ≡ pass)
  IsRefusedBy K c old new pass later (StoreFailed marked cause) = ⊥

  -- the client was told that the flusher gave up, why, and behind which mark, now or before; it has no answer more
  abbrev pub IsLost : ℕ × List (Note J) → ℕ × List (Note J) → CallFault → Type 0
  IsLost old new (Refused fault) = ⊥
  IsLost old new NoMemory = ⊥
  IsLost old new (StoreFailed marked cause) = (new.0 ≡ old.0) × (answers_of new.1 ≡ answers_of old.1) × (lost_in new.1 ≡ Some (record { marked = marked; cause = cause }))

  -- a command has no reply: as the book refuses it, which is noted; for want of memory, with nothing noted; or for good
  abbrev pub HasNoReply : Command J → ℕ × List (Note J) → ℕ × List (Note J) → CallFault → Type 0
  HasNoReply c old new (Refused fault) = (n : ℕ) × (new ≡ noted (note.Refused n c fault) old)
  HasNoReply c old new NoMemory = new ≡ old
  HasNoReply c old new (StoreFailed marked cause) = IsLost old new (StoreFailed marked cause)

  -- a number has no receipt: for want of memory, with nothing noted; or for good, if it is beyond the last mark
  abbrev pub HasNoReceipt : ℕ → ℕ × List (Note J) → ℕ × List (Note J) → CallFault → Type 0
  HasNoReceipt number old new (Refused fault) = ⊥
  HasNoReceipt number old new NoMemory = new ≡ old
  HasNoReceipt number old new (StoreFailed marked cause) = (marked < number) × IsLost old new (StoreFailed marked cause)
