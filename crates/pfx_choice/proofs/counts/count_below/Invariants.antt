use Rattle.std.proofs.Common.{◌≡◌, ◌≤◌, ◌-◌, ◌==◌, nat_lt, length, take}
use Rattle.std.specs.List.{count_by}
use Rattle.pfx_choice.proofs.counts.count_below.Given as goal

abbrev pub invariant-vectors : goal.invariant-vectors
invariant-vectors l = record {
  number : l.number ≡ count_by (λ x. nat_lt x l.d) (take l.at l.places);
  within : l.at ≤ length l.places;
  few : l.number ≤ l.at;
}

abbrev pub decreases-vectors : goal.decreases-vectors
decreases-vectors l = length l.places - l.at

abbrev pub invariant-tail : goal.invariant-tail
invariant-tail l = record {
  number : l.number ≡ count_by (λ x. nat_lt x l.d) (take l.at l.places);
  within : l.at ≤ length l.places;
  few : l.number ≤ l.at;
}

abbrev pub decreases-tail : goal.decreases-tail
decreases-tail l = length l.places - l.at
