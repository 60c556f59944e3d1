use Rattle.std.proofs.Common.{◌≡◌, ◌≤◌, ◌-◌, ◌==◌, nat_lt, length, take}
use Rattle.std.specs.List.{count_by}
use Rattle.pfx_choice.proofs.counts.count_marked.Given as goal

abbrev pub invariant-vectors : goal.invariant-vectors
invariant-vectors l = record {
  number : l.number ≡ count_by (λ x. x == 1) (take l.at l.marks);
  within : l.at ≤ length l.marks;
  few : l.number ≤ l.at;
}

abbrev pub decreases-vectors : goal.decreases-vectors
decreases-vectors l = length l.marks - l.at

abbrev pub invariant-tail : goal.invariant-tail
invariant-tail l = record {
  number : l.number ≡ count_by (λ x. x == 1) (take l.at l.marks);
  within : l.at ≤ length l.marks;
  few : l.number ≤ l.at;
}

abbrev pub decreases-tail : goal.decreases-tail
decreases-tail l = length l.marks - l.at
