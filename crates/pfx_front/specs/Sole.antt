-- What the only client of a front knows.
use Rattle.std.specs.Prelude.{◌≡◌, ℕ, List, []}
use Rattle.pfx_jobs.specs.Kind.{Kind}
use Rattle.pfx_machine.specs.Plain.{Plain, whole}
use Rattle.pfx_machine.specs.Outcome.{outcome}
use Rattle.pfx_machine.specs.Board.{all_lines}
use Rattle.pfx_machine.specs.declared.board.Board.{Board}
use Rattle.pfx_book.specs.declared.note.Note.{Note}
use Rattle.pfx_book.specs.Notes.{Legal, alone, commands_of}

module _ {J : Type 0} (K : Kind J) (start : Plain J) where
  -- the state after a single client's accepted commands
  abbrev pub state_of : List (Note J) → Plain J
  state_of notes = outcome K start (commands_of (alone notes))

  -- each note is right at its place, though no other client has been there
  abbrev pub IsAlone : List (Note J) → Type 0
  IsAlone notes = Legal K start [] (alone notes)

-- the board is that of the state
pub record IsShownBy {J : Type 0} (K : Kind J) (s : Plain J) (board : Board) : Type 0 where
  pub number : board.number ≡ s.number
  pub slot : board.slot ≡ whole s
  pub from : board.from ≡ s.from
  pub lines : board.lines.items ≡ all_lines K s
