use Rattle.std.proofs.Common.{◌≡◌, ◌-◌}
use Rattle.pfx_symbols.specs.Keys.{gaps_key, key_behind}
use Rattle.pfx_symbols.specs.Ranges.{placed_at, IsRange, HasGaps}
use Rattle.pfx_symbols.proofs.keys.key_of_gaps.Given as goal

abbrev pub invariant-rounds : goal.invariant-rounds
invariant-rounds l = record {
  range : IsRange l.low l.size l.turned;
  gaps : HasGaps l.e l.p l.v;
  same : placed_at l.turned l.low (gaps_key (l.k - l._i) l.size l.e l.p l.v) ≡ key_behind l.k l.fn.e l.fn.p l.fn.v;
}
