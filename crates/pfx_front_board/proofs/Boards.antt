-- What a board of batches says by itself.
use Rattle.std.proofs.Common.{◌≡◌, ℕ, zero, suc, List, [], ◌∷◌, length, refl, ap, ◌∙◌, arith, length-append}
use Rattle.pfx_columns.specs.Ledgers.{total}
use Rattle.pfx_jobs.specs.Kind.{Kind}
use Rattle.pfx_machine.specs.Plain.{Plain}
use Rattle.pfx_machine.specs.Board.{lines_of, line_of}
use Rattle.pfx_machine.specs.declared.board.Board.{Board}
use Rattle.pfx_record.specs.declared.batch.Batch.{Batch}
use Rattle.pfx_record_redo.proofs.States.{applied_behind}
use Rattle.pfx_front_board.specs.Word.{records_of, last_of}
use Rattle.pfx_front_board.specs.Shown.{IsBoardOf}

module _ {J : Type 0} where
  pub length-lines : (K : Kind J) (s : Plain J) (n : ℕ) → length (lines_of K s n) ≡ n
  length-lines K s zero = refl
  length-lines K s (suc n) = omega (arith, length-append (lines_of K s n) (line_of K s n ∷ []), length-lines K s n)

  -- its number is that of the last of the batches
  pub board_number : (K : Kind J) (o : Plain J) (xs : List (Batch J)) (board : Board) → IsBoardOf K o xs board → board.number ≡ last_of o xs
  board_number K o xs board h = h.number ∙ (applied_behind K o h.state (records_of xs) h.leads).number
