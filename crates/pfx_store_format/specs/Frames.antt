-- What a frame does to a state.
use Rattle.std.specs.Prelude.{ℕ, ◌+◌, ◌^◌, ◌==◌, ◌&&◌, nat_lt, nat_le, if◌then◌else◌, Bool, List, length, Option, Some, None}
use Rattle.pfx_record_redo.specs.Applying.{applied}
use Rattle.pfx_checkpoint.specs.Whole.{if_some}
use Rattle.pfx_jobs.specs.Kind.{Kind}
use Rattle.pfx_machine.specs.Plain.{Plain}
use Rattle.pfx_store_format.specs.Batches.{batch_in, count_in, first_in}

-- A head of a frame is right after a number: it is whole, has 1 to 16 commands, goes on from there, and stays below the
-- limit of numbers.
abbrev pub is_next : ℕ → List ℕ → ℕ → ℕ → Bool
is_next last frame first count = (nat_le 15 (length frame) && (nat_lt 0 count && nat_le count 16)) &&
    ((first == last + 1) && nat_lt (last + count) (2 ^ 48))

-- the number of the last command of a frame with such a head
unfoldable pub number_after : ℕ → List ℕ → Option ℕ
number_after last frame = if is_next last frame (first_in frame) (count_in frame) then Some (last + count_in frame) else None

-- the state after a frame's records, if its head is right after the state's number, and each record where it comes
unfoldable pub state_after : {J : Type 0} → Kind J → Plain J → List ℕ → Option (Plain J)
state_after K s frame = if_some (number_after s.number frame)
    (λ last. if_some (batch_in K s.ledger.set.workers s.ledger.set.real frame) (λ batch. applied K s batch.records))
