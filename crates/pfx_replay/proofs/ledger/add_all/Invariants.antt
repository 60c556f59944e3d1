use Rattle.std.proofs.Common.{◌≡◌, ◌+◌, length}
use Rattle.pfx_weights.specs.Rows.{is_in, one}
use Rattle.pfx_replay.proofs.Parts.{changed}
use Rattle.pfx_replay.proofs.ledger.add_all.Given as goal

abbrev pub invariant-loop-x : goal.invariant-loop-x
invariant-loop-x l = record {
  changed : l.allocations.items ≡ changed (λ x a. a + one (is_in l.row x)) l.x 0 l.fn.allocations.items;
  long : length l.allocations.items ≡ length l.fn.allocations.items;
}
