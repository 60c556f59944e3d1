-- What a book keeps of each entry, and what the entry is after those before it.
use Rattle.std.specs.Prelude.{◌≡◌, ℕ, ◌+◌, List, [], ◌∷◌, ◌++◌, unwrap_or, Bool, true, false}
use Rattle.pfx_jobs.specs.Kind.{Kind}
use Rattle.pfx_machine.specs.Plain.{Plain}
use Rattle.pfx_machine.specs.Outcome.{outcome}
use Rattle.pfx_machine.specs.Refusals.{reply}
use Rattle.pfx_machine.specs.declared.command.Command.{Command}
use Rattle.pfx_machine.specs.declared.command.Command.TheVariants as command
use Rattle.pfx_book.specs.declared.faults.BookFault.TheVariants.{SessionFull}
use Rattle.pfx_book.specs.declared.note.Note.{Note}
use Rattle.pfx_book.specs.declared.note.Note.TheVariants as note
use Rattle.pfx_book.specs.declared.line.Line.{Line}
use Rattle.pfx_book.specs.declared.line.Line.TheVariants.{Submit, Slot, Withdraw, Reweigh, Receipt}
use Rattle.pfx_book.specs.Notes.{added, refused_in}

module _ {J : Type 0} where
  -- the number of a line's pass
  abbrev pub pass_of : Line J → ℕ
  pass_of (Submit pass refused task job) = pass
  pass_of (Slot pass refused) = pass
  pass_of (Withdraw pass refused task) = pass
  pass_of (Reweigh pass refused workers weights) = pass
  pass_of (Receipt pass number clock) = pass

  -- the line is of this pass and this command, which was refused or not
  abbrev pub IsOf : ℕ → Bool → Command J → Line J → Type 0
  IsOf p r c (Submit pass refused task job) = (pass ≡ p) × (refused ≡ r) × (command.Submit task job.value ≡ c)
  IsOf p r c (Slot pass refused) = (pass ≡ p) × (refused ≡ r) × (command.Slot ≡ c)
  IsOf p r c (Withdraw pass refused task) = (pass ≡ p) × (refused ≡ r) × (command.Withdraw task ≡ c)
  IsOf p r c (Reweigh pass refused workers weights) = (pass ≡ p) × (refused ≡ r) × (command.Reweigh workers weights.value ≡ c)
  IsOf p r c (Receipt pass number clock) = ⊥

  -- the entry of a command after these: its number and reply, or why it is refused, are what they have to be there
  abbrev pub said_of : Kind J → Plain J → List (Command J) → Bool → Command J → Note J
  said_of K B H true c = note.Refused (outcome K B H).number c (unwrap_or (refused_in K B H c) SessionFull)
  said_of K B H false c = note.Accepted ((outcome K B H).number + 1) c (reply (outcome K B H) c)

  -- the entry of a line
  abbrev pub entry_of : Kind J → Plain J → List (Command J) → Line J → Note J
  entry_of K B H (Submit pass refused task job) = said_of K B H refused (command.Submit task job.value)
  entry_of K B H (Slot pass refused) = said_of K B H refused command.Slot
  entry_of K B H (Withdraw pass refused task) = said_of K B H refused (command.Withdraw task)
  entry_of K B H (Reweigh pass refused workers weights) = said_of K B H refused (command.Reweigh workers weights.value)
  entry_of K B H (Receipt pass number clock) = note.Receipt number clock

  -- the session that lines tell, each entry with its pass's number
  abbrev pub told : Kind J → Plain J → List (Command J) → List (Line J) → List (ℕ × Note J)
  told K B H [] = []
  told K B H (x ∷ xs) = (pass_of x, entry_of K B H x) ∷ told K B (H ++ added (entry_of K B H x)) xs
