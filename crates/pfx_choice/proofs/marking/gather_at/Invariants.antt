use Rattle.std.proofs.Common.{◌≡◌, ◌==◌, ◌<◌, ◌≤◌, ◌-◌, length, slice_index_or}
use Rattle.pfx_choice.specs.Picks.{ranks_if}
use Rattle.pfx_choice.specs.Places.{place}
use Rattle.pfx_choice.proofs.marking.gather_at.Given as goal

abbrev pub invariant-gathered : goal.invariant-gathered
invariant-gathered l = record {
  within : l.x ≤ length l.places;
  at : l.x < length l.places → slice_index_or l.places l.x 0 ≡ l.d;
  ranks : l.found.items ≡ ranks_if (λ y. place l.ledger y == l.d) l.x l.ledger;
}

abbrev pub decreases-gathered : goal.decreases-gathered
decreases-gathered l = length l.places - l.x
