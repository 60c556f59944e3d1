-- What the engine of a front's only client keeps of commands: its answers, and its receipts.
use Rattle.std.specs.Prelude.{◌≡◌, ◌≢◌, ◌⊎◌, ◌<◌, ◌≤◌, ℕ, ◌+◌, ◌++◌, List, [], length}
use Rattle.pfx_book.specs.Notes.{Noted, alone, commands_of, greatest}
use Rattle.pfx_book.specs.declared.note.Note.{Note}
use Rattle.pfx_book.specs.declared.note.Note.TheVariants.{Receipt}
use Rattle.pfx_front.specs.Sole.{IsAlone, state_of}
use Rattle.pfx_machine.specs.Plain.{Plain}
use Rattle.pfx_machine.specs.declared.command.Command.{Command}
use Rattle.pfx_jobs.specs.Kind.{Kind}

-- the client has a receipt of this number, or of a greater one
pub record HasReceipt {J : Type 0} (notes : List (Note J)) (n : ℕ) : Type 0 where
  pub number : ℕ
  pub clock : ℕ
  pub high : n ≤ number
  pub noted : Noted (1, Receipt number clock) (alone notes)

-- all that was accepted after the number `first` has a receipt, if there is anything
abbrev pub IsSettled : {J : Type 0} → ℕ → List (Note J) → Type 0
IsSettled first notes = (commands_of (alone notes) ≡ []) ⊎ HasReceipt notes (first + length (commands_of (alone notes)))

-- from one list of the client's notes to a later one these commands were accepted, and n of them have a receipt
pub record KeepsBy {J : Type 0} (first : ℕ) (was : List (Note J)) (H : List (Command J)) (n : ℕ) (is : List (Note J)) : Type 0 where
  pub later : List (ℕ × Note J)
  pub grows : alone is ≡ alone was ++ later
  pub commands : commands_of later ≡ H
  pub receipt : (n ≡ 0) ⊎ HasReceipt is (first + (length (commands_of (alone was)) + n))

-- what an engine's type keeps: the notes are all that has happened, their last number, whether it has its receipt, and the
-- number up to which there is one
pub record IsKept {J : Type 0} (K : Kind J) (start : Plain J) (notes : List (Note J)) (number kept : ℕ) : Type 0 where
  pub is_alone : IsAlone K start notes
  pub number_is : number ≡ (state_of K start notes).number
  pub low : kept ≤ number
  pub held : (kept ≡ start.number) ⊎ HasReceipt notes kept
  pub known : number ≢ kept → (0 < number) × (number ≤ greatest notes)
  pub settled : number ≡ kept → IsSettled start.number notes
