-- What a front has come to when it is closed.
use Rattle.std.specs.Prelude.{◌≡◌, ◌≢◌, ◌⊎◌, ◌≤◌, ◌<◌, ℕ, ◌+◌, ◌-◌, List, [], length, map, take, slice_get, Bool, true, false, Option, None, Some, Ok}
use mathlib.Core.List.{IsPrefix}
use Rattle.pfx_front_board.specs.Word.{records_of as records_of_batches}
use Rattle.pfx_disk.specs.Disk.{View, IsSpent}
use Rattle.pfx_record_redo.specs.Recording.{records_of}
use Rattle.pfx_fault.specs.declared.fields.Cause.{Cause}
use Rattle.pfx_fault.specs.declared.fields.Cause.TheVariants.{Device, Memory, Log}
use Rattle.pfx_store_format.specs.Format.{format}
use Rattle.pfx_jobs.specs.Kind.{Kind}
use Rattle.pfx_machine.specs.Plain.{Plain}
use Rattle.pfx_machine.specs.Outcome.{outcome}
use Rattle.pfx_machine.specs.declared.command.Command.{Command}
use Rattle.pfx_record.specs.declared.batch.Batch.{Batch}
use Rattle.pfx_store_image.specs.Recovery.{recovered}
use Rattle.pfx_book.specs.declared.note.Loss.{Loss}
use Rattle.pfx_book.specs.declared.note.Note.{Note}
use Rattle.pfx_book.specs.declared.note.Note.TheVariants.{Receipt}
use Rattle.pfx_book.specs.Notes.{Noted, Legal, answers_of, commands_of, lost_in}
use Rattle.pfx_book.specs.Merging.{IsMerge, numbers_from}
use Rattle.pfx_book.specs.Register.{Register}
use Rattle.pfx_front.specs.declared.faults.CloseFault.{CloseFault}
use Rattle.pfx_front.specs.declared.faults.CloseFault.TheVariants.{PassOut}

-- if a pass notes that the flusher gave up, it did so for that cause, and behind that mark, which is the last one
abbrev pub IsTold : {J : Type 0} → Option Cause → ℕ → ℕ × List (Note J) → Type 0
IsTold failure last pass = (loss : Loss) → lost_in pass.1 ≡ Some loss → (failure ≡ Some loss.cause) × (loss.marked ≡ last)

-- each of these passes was told so
abbrev pub AreTold : {J : Type 0} → Option Cause → ℕ → List (ℕ × List (Note J)) → Type 0
AreTold failure last passes = (k : ℕ) → (pass : ℕ × List (Note _)) → slice_get passes k ≡ Some pass → IsTold failure last pass

-- where the flusher gave up for memory the store is whole; so it is where it gave up for the log, which has failed then
pub record StaysWhole (failure failed : Option Cause) (broken : Bool) : Type 0 where
  pub memory : failure ≡ Some Memory → broken ≡ false
  pub log : failure ≡ Some Log → (failed ≡ Some Log) × (broken ≡ false)

-- of so many passes that were given out these aren't all, and so many are missing
abbrev pub IsShort : {J : Type 0} → List (ℕ × List (Note J)) → CloseFault → Type 0
IsShort passes (PassOut count) = (out : ℕ) × (count ≡ out - length passes) × (map (λ p. p.0) passes ≢ numbers_from 1 out)

-- each reader knows what it knew, and more, and those who looked know just the last publication
abbrev pub HaveLooked : {J : Type 0} → List (Batch J) → List (List (Batch J)) → List (List (Batch J)) → List Bool → Type 0
HaveLooked last old new looked = (k : ℕ) → (was is : List (Batch _)) → slice_get old k ≡ Some was → slice_get new k ≡ Some is →
    IsPrefix was is × (slice_get looked k ≡ Some true → is ≡ last)

-- so do all readers, and there is an answer of each
abbrev pub AreLooked : {J : Type 0} → List (Batch J) → List (List (Batch J)) → List (List (Batch J)) → List Bool → Type 0
AreLooked last old new looked = (length new ≡ length old) × (length looked ≡ length old) × HaveLooked last old new looked

module _ {J : Type 0} (K : Kind J) (start : Plain J) where
  -- an image is recovered to the outcome of first commands, those up to number n among them
  pub record Survives (H : List (Command J)) (n : ℕ) (image : List ℕ) : Type 0 where
    pub count : ℕ
    pub at_most : count ≤ length H
    pub at_least : n ≤ start.number + count
    pub recovered : recovered (format K) image ≡ Ok (outcome K start (take count H))

  -- number n is durable since this clock: each image since then has it
  pub record Acknowledged (H : List (Command J)) (disk : View) (n clock : ℕ) : Type 0 where
    pub past : clock ≤ disk.clock
    pub images : (image : List ℕ) → disk.since clock image → Survives H n image

  -- the session's entries are right at their places, and are those of the passes, merged; its accepted commands are theirs
  pub record IsSession (r : Register J) (passes : List (ℕ × List (Note J))) : Type 0 where
    pub legal : Legal K start [] r.history
    pub commands : r.session.accepted ≡ commands_of r.history
    pub merge : IsMerge (map (λ p. answers_of p.1) passes) r.history

  -- the store's state is the outcome of first commands, the marked ones among them; all are marked, or the flusher gave up,
  -- and for the device only if it has failed
  pub record IsStored (failures : ℕ) (r : Register J) (s : Plain J) (disk : View) : Type 0 where
    pub durable : ℕ
    pub some : durable ≤ length r.session.accepted
    pub state : s ≡ outcome K start (take durable r.session.accepted)
    pub mark : r.session.marked ≤ durable
    pub settled : (r.session.marked ≡ length r.session.accepted) ⊎ (r.failure ≢ None)
    pub device : r.failure ≡ Some Device → (failures < disk.failures) ⊎ IsSpent disk

  -- the records of these batches are those of first commands, which the store has
  pub record IsSeen (r : Register J) (s : Plain J) (batches : List (Batch J)) : Type 0 where
    pub count : ℕ
    pub some : count ≤ length r.session.accepted
    pub durable : start.number + count ≤ s.number
    pub records : records_of_batches batches ≡ records_of K start (take count r.session.accepted)

  -- each reader is there, with an answer, and knows what it knew, and more; what those who looked know are first commands that the
  -- store has
  pub record AreSeen (r : Register J) (s : Plain J) (old new : List (List (Batch J))) (looked : List Bool) : Type 0 where
    pub readers : length new ≡ length old
    pub answers : length looked ≡ length old
    pub each : (k : ℕ) → (was is : List (Batch J)) → slice_get old k ≡ Some was → slice_get new k ≡ Some is →
        IsPrefix was is × (slice_get looked k ≡ Some true → IsSeen r s is)

  -- each image since the beginning has first commands, and each since a receipt's clock has the receipt's
  pub record IsHeld (began : ℕ) (r : Register J) (disk : View) : Type 0 where
    pub all : Acknowledged r.session.accepted disk start.number began
    pub receipts : (k n c : ℕ) → Noted (k, Receipt n c) r.history → Acknowledged r.session.accepted disk n c
