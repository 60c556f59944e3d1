use Rattle.std.proofs.Common.{◌≤◌, ◌-◌, length}
use Rattle.pfx_weights.specs.Search.{IsNowhere}
use Rattle.pfx_weights.proofs.search.first_from.Given as goal

abbrev pub invariant-vectors : goal.invariant-vectors
invariant-vectors l = record {
  low : l.initial.at ≤ l.from;
  high : l.from ≤ length l.bytes;
  none : IsNowhere l.bytes l.byte l.initial.at l.from;
}

abbrev pub decreases-vectors : goal.decreases-vectors
decreases-vectors l = length l.bytes - l.from

abbrev pub invariant-rest : goal.invariant-rest
invariant-rest l = record {
  low : l.initial.at ≤ l.from;
  high : l.from ≤ length l.bytes;
  none : IsNowhere l.bytes l.byte l.initial.at l.from;
}

abbrev pub decreases-rest : goal.decreases-rest
decreases-rest l = length l.bytes - l.from
