use Rattle.std.proofs.Common.{◌≡◌, ◌<◌, ◌≤◌, ◌-◌, length}
use Rattle.pfx_columns.specs.Ledgers.{total}
use Rattle.pfx_choice.specs.Places.{place}
use Rattle.pfx_choice.proofs.Refining.{SplitTo}
use Rattle.pfx_choice.proofs.marking.split.Given as goal

abbrev pub invariant-tasks : goal.invariant-tasks
invariant-tasks l = record {
  within : l.x ≤ total l.ledger;
  at : l.x < total l.ledger → place l.ledger l.x ≡ l.d;
  split : SplitTo l.ledger l.keys l.d l.number l.end l.x l.places l.found.items;
}

abbrev pub decreases-tasks : goal.decreases-tasks
decreases-tasks l = length l.places - l.x
