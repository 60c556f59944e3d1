use Rattle.std.proofs.Common.{◌≡◌, ℕ, ◌<◌, length, slice_index_or}
use Rattle.pfx_columns.specs.Ledgers.{rank}
use Rattle.pfx_choice.specs.declared.kind.Kind.{Kind}
use Rattle.pfx_choice.specs.Kinds.{IsOf}
use Rattle.pfx_choice.proofs.kinds.renew.Given as goal

abbrev pub invariant-loop-k : goal.invariant-loop-k
invariant-loop-k l = record {
  long : length l.kinds ≡ length l.firsts;
  at : (j : ℕ) (d : Kind) → j < l.k → IsOf (rank l.ledger (slice_index_or l.firsts j 0)) (slice_index_or l.kinds j d).gap (slice_index_or l.kinds j d).key;
}
