-- Worked rows: for each field of what a receipt's moment keeps, and of what an append comes to, an image or a store for which it doesn't
-- hold. A definition that says less lets one pass, and the row fails.
use Rattle.std.specs.Prelude.{map}
use Rattle.std.proofs.Common.{◌≡◌, ◌+◌, ◌<◌, ℕ, List, [], ◌∷◌, Option, None, Some, true, false, refl, sym, ap, ◌∙◌, arith, inl, inr}
use Rattle.std.proofs.lemmas.Bool.{false≢true}
use Rattle.std.proofs.lemmas.Option.{none-some, same_Some}
use Rattle.pfx_disk.specs.Disk.{View, IsHonest, IsSpent}
use Rattle.pfx_fault.specs.declared.fields.Cause.{Cause}
use Rattle.pfx_fault.specs.declared.fields.Cause.TheVariants.{Device, Memory, Log}
use Rattle.pfx_jobs.specs.Kind.{Kind}
use Rattle.pfx_machine.specs.Plain.{Plain}
use Rattle.pfx_record.specs.Records.{plain}
use Rattle.pfx_record.specs.declared.batch.Batch.{Batch}
use Rattle.pfx_record_redo.specs.Applying.{applied}
use Rattle.pfx_store.specs.Marks.{AreKept, Covers}
use Rattle.pfx_store.specs.Stores.{PlainStore}
use Rattle.pfx_store.specs.declared.appending.Mark.{Mark}
use Rattle.pfx_front.specs.Appending.{IsAppended, IsMissed, with_frame}
use Rattle.pfx_front.specs.Lasting.{HasNumber}

module _ {J : Type 0} (K : Kind J) (origin : Plain J) where
  -- no batch leaves the state where it was, which doesn't have the next number
  number_lost : (image : List ℕ) → HasNumber K origin [] (origin.number + 1) image → ⊥
  number_lost image h =
      let here = ap (λ (s : Plain J). s.number) (same_Some origin h.recovers.state h.recovers.leads) in
      let number = h.number in
      omega (arith, here, number)

module _ {D J : Type 0} (view : D → View) (K : Kind J) (batch : Batch J) (old new : PlainStore D J) (failed : Option Cause) where
  abbrev before : View
  before = view old.file.disk

  abbrev after : View
  after = view new.file.disk

  module _ (mark : Mark) where
    -- something has failed
    appended_and_failed : (cause : Cause) → failed ≡ Some cause → IsAppended view K batch mark old new failed → ⊥
    appended_and_failed cause is h = none-some cause (sym h.goes_on ∙ is)

    -- the records lead nowhere
    leads_nowhere : applied K old.state (map plain batch.records.items) ≡ None → IsAppended view K batch mark old new failed → ⊥
    leads_nowhere none h = none-some new.state (sym none ∙ h.moved)

    -- the store is broken
    appended_and_broken : new.file.broken ≡ true → IsAppended view K batch mark old new failed → ⊥
    appended_and_broken broken h = false≢true (sym h.whole ∙ broken)

    -- the mark is of the number behind the batch
    mark_ahead : mark.number ≡ new.state.number + 1 → IsAppended view K batch mark old new failed → ⊥
    mark_ahead ahead h = let number = h.number in omega (arith, ahead, number)

    -- a failure of before is forgotten
    failure_forgotten : before.failures ≡ after.failures + 1 → IsAppended view K batch mark old new failed → ⊥
    failure_forgotten less h = let no_fewer = h.no_fewer in omega (arith, less, no_fewer)

    -- a disk that wasn't honest is
    honest_at_last : IsHonest after → (IsHonest before → ⊥) → IsAppended view K batch mark old new failed → ⊥
    honest_at_last now never h = never (h.honest now)

    -- the mark isn't kept
    mark_not_kept : IsHonest before → (start : Plain J) → Covers K start [] [] old.file.broken old.state before
        → (Covers K start (with_frame K batch []) (mark ∷ []) new.file.broken new.state after → ⊥) → IsAppended view K batch mark old new failed → ⊥
    mark_not_kept honest start covers lost h = lost (h.marks honest start [] [] covers)

  -- the state went on
  missed_and_moved : (cause : Cause) → new.state.number ≡ old.state.number + 1 → IsMissed view K batch cause old new failed → ⊥
  missed_and_moved cause more h =
      let same = ap (λ (s : Plain J). s.number) h.same in
      omega (arith, more, same)

  -- the device is said to have failed, and hasn't
  device_unfailed : after.failures ≡ before.failures → (IsSpent after → ⊥) → IsMissed view K batch Device old new failed → ⊥
  device_unfailed same live h = elim (h.device refl) [
    | inl more ↦ omega (arith, same, more)
    | inr spent ↦ live spent
  ]

  -- memory is said to have been refused, and the store is broken
  refused_and_broken : old.file.broken ≡ false → new.file.broken ≡ true → IsMissed view K batch Memory old new failed → ⊥
  refused_and_broken whole broken h = false≢true (sym whole ∙ sym (ap (λ (s : PlainStore D J). s.file.broken) (h.memory refl)) ∙ broken)

  -- the log is said to have failed, and hasn't
  log_unfailed : failed ≡ None → IsMissed view K batch Log old new failed → ⊥
  log_unfailed none h = none-some Log (sym none ∙ (h.log refl).1)

  -- the log is said to have failed, and the store is broken
  log_and_broken : old.file.broken ≡ false → new.file.broken ≡ true → IsMissed view K batch Log old new failed → ⊥
  log_and_broken whole broken h = false≢true (sym whole ∙ sym (ap (λ (s : PlainStore D J). s.file.broken) (h.log refl).0) ∙ broken)

  -- a disk that wasn't honest is
  missed_and_honest : (cause : Cause) → IsHonest after → (IsHonest before → ⊥) → IsMissed view K batch cause old new failed → ⊥
  missed_and_honest cause now never h = never (h.honest now)

  -- a mark of before isn't kept
  mark_lost : (cause : Cause) (mark : Mark) → IsHonest before → (start : Plain J) (all : List (List ℕ)) → Covers K start all (mark ∷ []) old.file.broken old.state before
      → (AreKept K start (with_frame K batch all) (mark ∷ []) after → ⊥) → IsMissed view K batch cause old new failed → ⊥
  mark_lost cause mark honest start all covers lost h = lost (h.marks honest start all (mark ∷ []) covers)
