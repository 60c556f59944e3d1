-- What marks keep at each moment since they were given.
use Rattle.std.proofs.Common.{◌≡◌, ◌⊎◌, ◌+◌, ◌≤◌, ℕ, List, [], ◌∷◌, ◌++◌, length, None, Bool, refl, sym, ap, ◌∙◌, subst, arith, inl, inr}
use Rattle.std.specs.Prelude.{take}
use Rattle.pfx_front_board.specs.Word.{records_of as records_of_batches}
use Rattle.pfx_book.specs.Notes.{Legal, Noted, commands_of, records_in}
use Rattle.pfx_book.specs.declared.note.Note.{Note}
use Rattle.pfx_book.specs.declared.note.Note.TheVariants.{Marked, Took}
use Rattle.pfx_book.proofs.Notes.{noted_more}
use Rattle.pfx_disk_chronicle.specs.Chart.{acts_of}
use Rattle.pfx_disk_chronicle.specs.declared.made.Made.{Made}
use Rattle.pfx_disk.specs.Disk.{View, IsHonest}
use Rattle.pfx_disk.specs.Stop.{Left}
use Rattle.pfx_jobs.specs.Kind.{Kind, Laws}
use Rattle.pfx_machine.specs.Plain.{Plain, IsState}
use Rattle.pfx_machine.specs.Sessions.{IsAcceptable}
use Rattle.pfx_record.specs.declared.batch.Batch.{Batch}
use Rattle.pfx_record_redo.specs.Recording.{records_of}
use Rattle.pfx_store.specs.declared.appending.Mark.{Mark}
use Rattle.pfx_front.specs.Closing.{Acknowledged}
use Rattle.pfx_front.specs.Keeping.{InStep}
use Rattle.pfx_front.specs.Lasting.{AreNoted, IsLasting}
use Rattle.pfx_front.proofs.Ends.{acknowledged}
use Rattle.pfx_front.proofs.Steps.{noted_split, step_behind}

-- a note more
pub still_noted : {J : Type 0} (marks : List Mark) (notes after : List (Note J)) (x : Note J) → after ≡ notes ++ x ∷ [] → AreNoted marks notes → AreNoted marks after
still_noted marks notes after x more noted mark is = subst (Noted (Marked mark.number mark.clock)) (sym more) (noted_more (Marked mark.number mark.clock) notes (x ∷ []) (noted mark is))

last_one : {A : Type 0} (x : A) (xs : List A) (y : A) → Noted x (xs ++ y ∷ []) → Noted x xs ⊎ (y ≡ x)
last_one x [] y (inl same) = inr same
last_one x [] y (inr h) = absurd h
last_one x (z ∷ zs) y (inl same) = inl (inl same)
last_one x (z ∷ zs) y (inr h) = elim (last_one x zs y h) [ inl l ↦ inl (inr l) | inr r ↦ inr r ]

pub is_last : {A : Type 0} (xs : List A) (y : A) → Noted y (xs ++ y ∷ [])
is_last [] y = inl refl
is_last (x ∷ xs) y = inr (is_last xs y)

-- a mark more, and its note
pub marked_too : {J : Type 0} (marks more : List Mark) (notes : List (Note J)) (mark : Mark) → more ≡ marks ++ mark ∷ [] → AreNoted marks notes → AreNoted more (notes ++ Marked mark.number mark.clock ∷ [])
marked_too {J = J} marks more notes mark are noted m is = elim (last_one m marks mark (subst (Noted m) are is)) [
  | inl before ↦ noted_more (Marked m.number m.clock) notes (Marked mark.number mark.clock ∷ []) (noted m before)
  | inr same ↦ subst (λ (x : Mark). Noted {A = Note J} (Marked x.number x.clock) (notes ++ Marked mark.number mark.clock ∷ [])) same (is_last notes (Marked mark.number mark.clock))
]

module _ {J : Type 0} (K : Kind J) (L : Laws K) (start : Plain J) (image : List ℕ) (first failures : ℕ) (held : Type 0) (notes : List (Note J)) (broken : Bool) (s : Plain J)
    (disk : View) (step : InStep K start failures first notes broken s disk) (made : List Made) (honest : held → IsHonest disk)
    (since : held → (c k : ℕ) → c ≤ first + k → k ≤ length made → (left : List ℕ) → Left image (take k (acts_of made)) left → disk.since c left)
    (entries : List (ℕ × Note J)) (legal : Legal K start [] entries) (valid : IsState start) (all : IsAcceptable K start (commands_of entries)) (taken : ℕ)
    (few : taken ≤ length (commands_of entries)) (are : records_in notes ≡ records_of K start (take taken (commands_of entries))) where
  -- what a store in step has marked is kept at each moment that its disk tells
  pub lasting : (marks : List Mark) (batches : List (Batch J)) → AreNoted marks notes → records_of_batches batches ≡ records_in notes → IsLasting K start image first held marks made batches
  lasting marks batches noted shown = record {
    entries = entries;
    legal = legal;
    published = (taken, few, shown ∙ are);
    keeps = λ h mark is k after some left stops.
        (acknowledged K L start failures first notes None broken s disk (step_behind K start failures first notes None broken s disk step) (commands_of entries) taken valid all few are
        (honest h) mark.number mark.clock (noted mark is)).images left (since h mark.clock k after some left stops);
  }
