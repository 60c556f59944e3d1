-- The state that a checkpoint area's body stands for.
use Rattle.std.specs.Prelude.{ℕ, nat_le, if◌then◌else◌, List, Option, Some, None}
use Rattle.pfx_checkpoint.specs.Whole.{if_some, read_whole}
use Rattle.pfx_store_header.specs.Headers.{Header, least_segment}
use Rattle.pfx_jobs.specs.Kind.{Kind}
use Rattle.pfx_machine.specs.Plain.{Plain}

-- the state, if the longest batch of its workers has room in a segment of this length
abbrev pub with_room : {J : Type 0} → ℕ → Plain J → Option (Plain J)
with_room segment s = if nat_le (least_segment s.ledger.set.workers) segment then Some s else None

-- the state that stands there with its set, which has as many real tasks as the header's
unfoldable pub read_area : {J : Type 0} → Kind J → Header → List ℕ → Option (Plain J)
read_area K h bytes = if_some (read_whole K h.set.real h.segment bytes) (with_room h.segment)
