-- Worked rows of what a closed front has come to: for each field a session, a store or readers for which it doesn't hold.
use Rattle.std.specs.Prelude.{Bool, Option, take}
use Rattle.std.proofs.Common.{◌≡◌, ◌+◌, ◌≤◌, ℕ, List, [], ◌∷◌, length, Some, None, true, false, refl, sym, ap, ◌∙◌, subst, arith, inl, inr}
use Rattle.std.proofs.lemmas.Bool.{false≢true}
use Rattle.std.proofs.lemmas.List.{length-take-le}
use Rattle.std.proofs.lemmas.Option.{none-some}
use Rattle.pfx_front_board.specs.Word.{records_of as records_of_batches}
use Rattle.pfx_book.proofs.Notes.{number_is}
use Rattle.pfx_book.specs.Merging.{IsMerge, numbers_from}
use Rattle.pfx_book.specs.Notes.{Legal, commands_of}
use Rattle.pfx_book.specs.Register.{Register}
use Rattle.pfx_book.specs.declared.note.Loss.{Loss}
use Rattle.pfx_book.specs.declared.note.Note.{Note}
use Rattle.pfx_book.specs.declared.note.Note.TheVariants.{Lost, Marked, Receipt}
use Rattle.pfx_disk.specs.Disk.{View, IsSpent}
use Rattle.pfx_fault.specs.declared.fields.Cause.{Cause}
use Rattle.pfx_fault.specs.declared.fields.Cause.TheVariants.{Device, Memory, Log}
use Rattle.pfx_store_header.specs.Headers.{read_header}
use Rattle.pfx_jobs.specs.Kind.{Kind}
use Rattle.pfx_machine.specs.Plain.{Plain}
use Rattle.pfx_machine.specs.declared.command.Command.{Command}
use Rattle.pfx_machine.specs.declared.command.Command.TheVariants.{Slot}
use Rattle.pfx_record.specs.Records.{withdrawn}
use Rattle.pfx_record.specs.declared.batch.Batch.{Batch}
use Rattle.pfx_store_image.specs.Recovery.{found, recovered}
use Rattle.pfx_record_redo.specs.Recording.{records_of}
use Rattle.pfx_store.proofs.Grouping.{length-records}
use Rattle.pfx_front.specs.Closing.{Acknowledged, AreSeen, IsSeen, IsSession, IsShort, IsStored, IsTold, StaysWhole, Survives}
use Rattle.pfx_front.specs.declared.faults.CloseFault.TheVariants.{PassOut}
use Rattle.pfx_front_board.proofs.Refuted.{is_ok}

-- a client was told of a failure, and the flusher goes on
told_of_none : (J : Type 0) (loss : Loss) → IsTold {J = J} None loss.marked (1, Lost loss ∷ []) → ⊥
told_of_none J loss h = none-some loss.cause (h loss refl).0

-- a client was told of a mark that isn't the last one
told_behind : (J : Type 0) (cause : Cause) → IsTold {J = J} (Some cause) 1 (1, Lost (record { marked = 0; cause = cause }) ∷ []) → ⊥
told_behind J cause h = let same : 0 ≡ 1 = (h (record { marked = 0; cause = cause }) refl).1 in omega (arith, same)

-- the flusher gave up for memory, and the store is broken
broken_for_memory : (failed : Option Cause) → StaysWhole (Some Memory) failed true → ⊥
broken_for_memory failed h = false≢true (sym (h.memory refl))

-- it gave up for the log, which hasn't failed
log_unfailed : (broken : Bool) → StaysWhole (Some Log) None broken → ⊥
log_unfailed broken h = none-some Log (h.log refl).0

-- it gave up for the log, and the store is broken
broken_for_log : (failed : Option Cause) → StaysWhole (Some Log) failed true → ⊥
broken_for_log failed h = false≢true (sym (h.log refl).1)

-- where there was no pass none is missing
none_out : (J : Type 0) → IsShort {J = J} [] (PassOut 0) → ⊥
none_out J h =
    let count = h.1 in
    let out : h.0 ≡ 0 = omega (arith, count) in
    h.2 (ap (numbers_from 1) (sym out))

module _ {J : Type 0} (K : Kind J) (start : Plain J) where
  -- of no command none is at hand
  survives_less : (image : List ℕ) → Survives K start [] (start.number + 1) image → ⊥
  survives_less image h =
      let few = h.at_most in
      let least = h.at_least in
      omega (arith, few, least)

  -- nothing is found in an empty file
  survives_nowhere : (H : List (Command J)) (n : ℕ) → Survives K start H n [] → ⊥
  unfolding recovered found read_header
  survives_nowhere H n h = false≢true (ap is_ok h.recovered)

  -- a moment that is still to come
  not_past : (H : List (Command J)) (disk : View) (n : ℕ) → Acknowledged K start H disk n (disk.clock + 1) → ⊥
  not_past H disk n h = let past = h.past in omega (arith, past)

  -- a command is accepted, and no pass has it
  nobody_asked : (r : Register J) (passes : List (ℕ × List (Note J))) → r.session.accepted ≡ Slot ∷ [] → r.history ≡ [] → IsSession K start r passes → ⊥
  nobody_asked r passes accepted none h =
      let long : length r.session.accepted ≡ 0 = ap length h.commands ∙ ap (λ (l : List (ℕ × Note J)). length (commands_of l)) none in
      let one = ap length accepted in
      omega (arith, long, one)

  -- an entry that is no client's
  not_legal : (r : Register J) (passes : List (ℕ × List (Note J))) → r.history ≡ (1, Marked 0 0) ∷ [] → IsSession K start r passes → ⊥
  not_legal r passes is h = (subst (Legal K start []) is h.legal).0

  -- an entry of a pass that isn't there
  not_merged : (r : Register J) → r.history ≡ (1, Receipt 0 0) ∷ [] → IsSession K start r [] → ⊥
  not_merged r is h = false≢true (subst (λ (l : List (ℕ × Note J)). IsMerge [] l) is h.merge).tagged

  module _ (r : Register J) (s : Plain J) (failures : ℕ) (disk : View) where
    -- more is marked than the store has
    marked_more : r.session.accepted ≡ [] → r.session.marked ≡ 1 → IsStored K start failures r s disk → ⊥
    marked_more none one h =
        let long = ap length none in
        let some = h.some in
        let mark = h.mark in
        omega (arith, long, one, some, mark)

    -- not all is marked, and the flusher goes on
    not_settled : r.session.accepted ≡ Slot ∷ [] → r.session.marked ≡ 0 → r.failure ≡ None → IsStored K start failures r s disk → ⊥
    not_settled one none goes_on h = elim h.settled [
      | inl all ↦ (let long = ap length one in omega (arith, long, none, all))
      | inr failed ↦ failed goes_on
    ]

    -- the flusher gave up for a device that hasn't failed
    not_failed : r.failure ≡ Some Device → disk.failures ≡ failures → (IsSpent disk → ⊥) → IsStored K start failures r s disk → ⊥
    not_failed lost same live h = elim (h.device lost) [
      | inl more ↦ omega (arith, same, more)
      | inr spent ↦ live spent
    ]

    -- the store has a command that nobody asked for
    has_more : r.session.accepted ≡ [] → s.number ≡ start.number + 1 → IsStored K start failures r s disk → ⊥
    has_more none number h =
        let at = ap (λ (p : Plain J). p.number) h.state ∙ number_is K start (take h.durable r.session.accepted) in
        let some = h.some in
        let front = length-take-le h.durable r.session.accepted some in
        let long = ap length none in
        omega (arith, at, some, front, long, number)

    -- a reader saw a record, and the store has nothing
    seen_more : (batches : List (Batch J)) → records_of_batches batches ≡ withdrawn 0 ∷ [] → s.number ≡ start.number → IsSeen K start r s batches → ⊥
    seen_more batches one number h =
        let some = h.some in
        let front = length-take-le h.count r.session.accepted some in
        let long : 1 ≡ length (take h.count r.session.accepted) = ap length (sym one ∙ h.records) ∙ length-records K start (take h.count r.session.accepted) in
        let durable = h.durable in
        omega (arith, front, long, durable, number)

    -- a reader is gone
    reader_gone : (known : List (Batch J)) (looked : List Bool) → AreSeen K start r s (known ∷ []) [] looked → ⊥
    reader_gone known looked h = let same = h.readers in omega (arith, same)

    -- a reader has no answer
    no_answer : AreSeen K start r s ([] ∷ []) ([] ∷ []) [] → ⊥
    no_answer h = let same = h.answers in omega (arith, same)

    -- a reader knows less than before
    knows_less : (batch : Batch J) → AreSeen K start r s ((batch ∷ []) ∷ []) ([] ∷ []) (false ∷ []) → ⊥
    knows_less batch h =
        let long = ap length (h.each 0 (batch ∷ []) [] refl refl).0.1 in
        omega (arith, long)
