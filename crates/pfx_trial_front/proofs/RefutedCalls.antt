-- Worked rows of calls of a front that have no reply or no receipt: for each thing that a client knows then, a book or a pass for which it
-- doesn't hold. A definition that says less lets one pass, and the row fails.
use Rattle.std.proofs.Common.{◌≡◌, ◌+◌, ◌++◌, ℕ, List, [], ◌∷◌, length, None, Some, sym, ap, ◌∙◌, arith}
use Rattle.std.proofs.lemmas.List.{length_push}
use Rattle.std.proofs.lemmas.Option.{none-some}
use Rattle.pfx_fault.specs.declared.fields.Cause.{Cause}
use Rattle.pfx_jobs.specs.Kind.{Kind}
use Rattle.pfx_machine.specs.declared.command.Command.{Command}
use Rattle.pfx_book.specs.Calls.{refused_by}
use Rattle.pfx_book.specs.Notes.{answers_of, lost_in}
use Rattle.pfx_book.specs.Register.{Register}
use Rattle.pfx_book.specs.declared.faults.BookFault.{BookFault}
use Rattle.pfx_book.specs.declared.note.Note.{Note}
use Rattle.pfx_book.specs.declared.note.Note.TheVariants as note
use Rattle.pfx_front.specs.Calling.{IsRefusedBy, IsLost, HasNoReply, HasNoReceipt}
use Rattle.pfx_front.specs.declared.faults.CallFault.TheVariants.{Refused, NoMemory, StoreFailed}

module _ {J : Type 0} (K : Kind J) (c : Command J) (old new : Register J) (pass later : ℕ × List (Note J)) where
  -- the book would take the command
  refused_though_taken : (fault : BookFault) → refused_by K old.session c ≡ None → IsRefusedBy K c old new pass later (Refused fault) → ⊥
  refused_though_taken fault none h = none-some fault (sym none ∙ h.0)

  -- the refusal is no entry of the book
  refused_unentered : (fault : BookFault) → new.history ≡ old.history → IsRefusedBy K c old new pass later (Refused fault) → ⊥
  refused_unentered fault same h =
      let longer = length_push old.history (pass.0, note.Refused old.session.state.number c fault) in
      let is = ap (λ (r : Register J). length r.history) h.1 in
      let as_long = ap (λ (entries : List (ℕ × Note J)). length entries) same in
      omega (arith, longer, is, as_long)

  -- the book is at another state
  refused_and_moved : (fault : BookFault) → new.session.state.number ≡ old.session.state.number + 1
      → IsRefusedBy K c old new pass later (Refused fault) → ⊥
  refused_and_moved fault more h =
      let is = ap (λ (r : Register J). r.session.state.number) h.1 in
      omega (arith, more, is)

  -- the pass doesn't note it
  refused_unnoted : (fault : BookFault) → later.1 ≡ pass.1 → IsRefusedBy K c old new pass later (Refused fault) → ⊥
  refused_unnoted fault same h =
      let longer = length_push pass.1 (note.Refused old.session.state.number c fault) in
      let is = ap (λ (p : ℕ × List (Note J)). length p.1) h.2 in
      let as_long = ap (λ (notes : List (Note J)). length notes) same in
      omega (arith, longer, is, as_long)

  -- memory was wanting, and the book is at another state
  memory_and_moved : new.session.state.number ≡ old.session.state.number + 1 → IsRefusedBy K c old new pass later NoMemory → ⊥
  memory_and_moved more h =
      let is = ap (λ (r : Register J). r.session.state.number) h.0 in
      omega (arith, more, is)

  -- memory was wanting, and the pass notes something
  memory_and_noted : (n : Note J) → later.1 ≡ pass.1 ++ n ∷ [] → IsRefusedBy K c old new pass later NoMemory → ⊥
  memory_and_noted n more h =
      let longer = length_push pass.1 n in
      let is = ap (λ (p : ℕ × List (Note J)). length p.1) h.1 in
      let as_long = ap (λ (notes : List (Note J)). length notes) more in
      omega (arith, longer, is, as_long)

  -- the flusher gave up, which is no refusal
  refused_by_the_store : (marked : ℕ) (cause : Cause) → IsRefusedBy K c old new pass later (StoreFailed marked cause) → ⊥
  refused_by_the_store marked cause h = h

module _ {J : Type 0} (pass later : ℕ × List (Note J)) (marked : ℕ) (cause : Cause) where
  -- another pass was told
  told_another : later.0 ≡ pass.0 + 1 → IsLost pass later (StoreFailed marked cause) → ⊥
  told_another other h = let same = h.0 in omega (arith, other, same)

  -- the pass has an answer more
  told_and_answered : length (answers_of later.1) ≡ length (answers_of pass.1) + 1 → IsLost pass later (StoreFailed marked cause) → ⊥
  told_and_answered more h =
      let same = ap length h.1 in
      omega (arith, more, same)

  -- the pass notes no failure
  told_unnoted : lost_in later.1 ≡ None → IsLost pass later (StoreFailed marked cause) → ⊥
  told_unnoted none h = none-some (record { marked = marked; cause = cause }) (sym none ∙ h.2)

  -- a refused command isn't noted
  no_reply_unnoted : (c : Command J) (fault : BookFault) → later.1 ≡ pass.1 → HasNoReply c pass later (Refused fault) → ⊥
  no_reply_unnoted c fault same h =
      let longer = length_push pass.1 (note.Refused h.0 c fault) in
      let is = ap (λ (p : ℕ × List (Note J)). length p.1) h.1 in
      let as_long = ap (λ (notes : List (Note J)). length notes) same in
      omega (arith, longer, is, as_long)

  -- memory was wanting, and the pass notes something: of a command, and of a receipt
  no_reply_noted : (c : Command J) → later.0 ≡ pass.0 + 1 → HasNoReply c pass later NoMemory → ⊥
  no_reply_noted c other h =
      let same = ap (λ (p : ℕ × List (Note J)). p.0) h in
      omega (arith, other, same)

  no_receipt_noted : (number : ℕ) → later.0 ≡ pass.0 + 1 → HasNoReceipt number pass later NoMemory → ⊥
  no_receipt_noted number other h =
      let same = ap (λ (p : ℕ × List (Note J)). p.0) h in
      omega (arith, other, same)

  -- a receipt is refused, and one of a marked number isn't given
  receipt_refused : (number : ℕ) (fault : BookFault) → HasNoReceipt number pass later (Refused fault) → ⊥
  receipt_refused number fault h = h

  marked_without_receipt : HasNoReceipt marked pass later (StoreFailed marked cause) → ⊥
  marked_without_receipt h = let beyond = h.0 in omega (arith, beyond)
