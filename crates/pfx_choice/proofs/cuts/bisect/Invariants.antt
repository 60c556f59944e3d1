use Rattle.std.proofs.Common.{◌≡◌, ◌<◌, ◌≤◌, ◌-◌}
use Rattle.pfx_choice.specs.Cuts.{below}
use Rattle.pfx_choice.proofs.cuts.bisect.Given as goal

abbrev pub invariant-halves : goal.invariant-halves
invariant-halves l = record {
  some : 0 < l.low;
  apart : l.low < l.high;
  few : l.high ≤ 255;
  first : l.first ≡ below l.places l.low;
  least : l.first ≤ l.workers;
  most : l.workers ≤ below l.places l.high;
}

abbrev pub decreases-halves : goal.decreases-halves
decreases-halves l = l.high - l.low
