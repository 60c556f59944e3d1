-- What is shown of batches.
use Rattle.std.specs.Prelude.{◌≡◌, List, Some}
use Rattle.pfx_jobs.specs.Kind.{Kind}
use Rattle.pfx_machine.specs.Plain.{Plain, whole}
use Rattle.pfx_machine.specs.Board.{all_lines}
use Rattle.pfx_machine.specs.declared.board.Board.{Board}
use Rattle.pfx_record.specs.declared.batch.Batch.{Batch}
use Rattle.pfx_record_redo.specs.Applying.{applied}
use Rattle.pfx_front_board.specs.Word.{records_of}

-- the board of the state after these batches, which go on from the origin
pub record IsBoardOf {J : Type 0} (K : Kind J) (origin : Plain J) (batches : List (Batch J)) (board : Board) : Type 0 where
  pub state : Plain J
  pub leads : applied K origin (records_of batches) ≡ Some state
  pub number : board.number ≡ state.number
  pub slot : board.slot ≡ whole state
  pub from : board.from ≡ state.from
  pub lines : board.lines.items ≡ all_lines K state
