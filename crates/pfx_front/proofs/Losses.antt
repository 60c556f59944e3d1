-- A client that is told of a failure.
use Rattle.std.specs.Prelude.{is_some, if◌then◌else◌, option_map, nat_le, ◌^◌}
use Rattle.std.proofs.Common.{◌≡◌, ℕ, List, [], ◌∷◌, ◌++◌, length, Option, Some, None, Bool, true, false, refl, sym, ap, ◌∙◌, inl, inr}
use Rattle.std.proofs.lemmas.Bool.{false≢true}
use Rattle.std.proofs.lemmas.Option.{same_Some}
use Rattle.pfx_jobs.specs.Kind.{Kind}
use Rattle.pfx_machine.specs.Plain.{Plain}
use Rattle.pfx_machine.specs.Refusals.{refusal}
use Rattle.pfx_machine.specs.declared.command.Command.{Command}
use Rattle.pfx_machine.specs.declared.faults.MachineFault.{MachineFault}
use Rattle.pfx_book.specs.declared.faults.BookFault.{BookFault}
use Rattle.pfx_book.specs.declared.faults.BookFault.TheVariants as book
use Rattle.pfx_book.specs.declared.note.Loss.{Loss}
use Rattle.pfx_book.specs.declared.note.Note.{Note}
use Rattle.pfx_book.specs.declared.note.Note.TheVariants.{Failed, Lost}
use Rattle.pfx_fault.specs.declared.fields.Cause.{Cause}
use Rattle.pfx_book.specs.Kept.{HasFailed}
use Rattle.pfx_book.specs.Notes.{Noted, answers_of, is_entry, lost_in, refused_at}
use Rattle.pfx_book.specs.Calls.{Refuses, once_lost}
use Rattle.pfx_book.specs.Register.{Register}
use Rattle.pfx_book.proofs.Notes.{lost_first}
use Rattle.pfx_front.specs.Calling.{IsLost, IsRefusedBy, HasNoReply, told_of}
use Rattle.pfx_front.specs.declared.faults.CallFault.{CallFault}
use Rattle.pfx_front.specs.declared.faults.CallFault.TheVariants.{Refused, NoMemory, StoreFailed}

-- the mark that a fault tells
abbrev pub mark_of : Option CallFault → ℕ
mark_of (Some (StoreFailed marked cause)) = marked
mark_of other = 0

pub some_of : {A : Type 0} (o : Option A) → is_some o ≡ true → (x : A) × (o ≡ Some x)
some_of (Some x) e = (x, refl)
some_of None e = absurd (false≢true e)

module _ {J : Type 0} where
  answers_lost : (xs : List (Note J)) (d : Loss) → answers_of (xs ++ Lost d ∷ []) ≡ answers_of xs
  answers_lost [] d = refl
  answers_lost (x ∷ xs) d = ap (λ (l : List (Note J)). if is_entry x then x ∷ l else l) (answers_lost xs d)

  told_by : (o : Option Loss) (d : Loss) (xs : List (Note J)) → lost_in xs ≡ o → (answers_of (once_lost o d xs) ≡ answers_of xs) × (e : Loss) × (lost_in (once_lost o d xs) ≡ Some e)
  told_by None d xs same = (answers_lost xs d, d, lost_first xs d same)
  told_by (Some e) d xs same = (refl, e, same)

  -- a list in which a failure is told for the first time, or was before, has no answer more and tells one
  pub told_once : (xs : List (Note J)) (d : Loss) → (answers_of (once_lost (lost_in xs) d xs) ≡ answers_of xs) × (e : Loss) × (lost_in (once_lost (lost_in xs) d xs) ≡ Some e)
  told_once xs d = told_by (lost_in xs) d xs refl

  -- where no failure is noted there is none
  pub none_of : (o : Option Cause) (notes : List (Note J)) → HasFailed o notes → ((cause : Cause) → Noted (Failed cause) notes → ⊥) → o ≡ None
  none_of None notes h unfailed = refl
  none_of (Some cause) notes h unfailed = absurd (unfailed cause h)

  -- what a client is told of has this mark, if what it was told of before had
  pub told_mark : (xs : List (Note J)) (loss : Loss) (last : ℕ) → loss.marked ≡ last → ((e : Loss) → lost_in xs ≡ Some e → e.marked ≡ last)
      → (e : Loss) → lost_in (once_lost (lost_in xs) loss xs) ≡ Some e → e.marked ≡ last
  told_mark xs loss last now before e is = by (lost_in xs) refl is
    where
      by : (o : Option Loss) → lost_in xs ≡ o → lost_in (once_lost o loss xs) ≡ Some e → e.marked ≡ last
      by None none told = ap (λ (l : Loss). l.marked) (sym (same_Some loss e (sym (lost_first xs loss none) ∙ told))) ∙ now
      by (Some other) same told = before e told

  pub no_reply : (c : Command J) (old new : ℕ × List (Note J)) (fault : CallFault) → IsLost old new fault → HasNoReply c old new fault
  no_reply c old new (Refused fault) h = absurd h
  no_reply c old new NoMemory h = absurd h
  no_reply c old new (StoreFailed marked cause) h = h

  -- what the book refuses it doesn't refuse for want of memory
  apart : (full : Bool) (K : Kind J) (s : Plain J) (c : Command J) → refused_at full K s c ≡ Some book.NoMemory → ⊥
  apart true K s c is = cc
  apart false K s c is = by (refusal K s c) is
    where
      by : (o : Option MachineFault) → option_map book.Machine o ≡ Some book.NoMemory → ⊥
      by None none = cc
      by (Some f) other = cc

  -- what the book says of a command that it doesn't accept is what the client is told
  pub no_answer : (K : Kind J) (c : Command J) (old new : Register J) (pass later : ℕ × List (Note J)) (fault : BookFault)
      → Refuses K c old new pass later fault → IsRefusedBy K c old new pass later (told_of fault) × HasNoReply c pass later (told_of fault)
  no_answer K c old new pass later book.NoMemory (inl h) = ((h.1, h.2), h.2)
  no_answer K c old new pass later book.NoMemory (inr h) = absurd (apart (nat_le (2 ^ 20) (length old.session.accepted)) K old.session.state c h.0)
  no_answer K c old new pass later book.SessionFull (inl h) = absurd (let e = h.0 in cc)
  no_answer K c old new pass later book.SessionFull (inr h) = (h, (old.session.state.number, h.2))
  no_answer K c old new pass later (book.Machine f) (inl h) = absurd (let e = h.0 in cc)
  no_answer K c old new pass later (book.Machine f) (inr h) = (h, (old.session.state.number, h.2))
