use Rattle.std.specs.Prelude.{All, IsTrue}
use Rattle.std.proofs.Common.{◌≡◌, ◌++◌, length, vec_capacity}
use Rattle.std.specs.VecDeque.{deque_items, deque_capacity}
use Rattle.pfx_record.specs.Records.{plain}
use Rattle.pfx_record_redo.specs.Applying.{is_common}
use Rattle.pfx_book.proofs.room.take_front.Given as goal

abbrev pub invariant-loop-i : goal.invariant-loop-i
invariant-loop-i g l =
    (deque_items l.fn.pending ≡ l.records.items ++ deque_items l.pending)
    × (length l.records.items ≡ l._i)
    × All (λ entry. IsTrue (is_common (plain entry))) l.records.items
    × (vec_capacity l.records ≡ vec_capacity l.fn.room)
    × (deque_capacity l.pending ≡ deque_capacity l.fn.pending)
