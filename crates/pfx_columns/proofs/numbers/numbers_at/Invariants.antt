use Rattle.pfx_columns.specs.Columns.{AreNumbers}
use Rattle.pfx_columns.specs.Ledgers.{ledger_at}
use Rattle.pfx_columns.proofs.numbers.numbers_at.Given as goal

abbrev pub invariant-loop-x : goal.invariant-loop-x
invariant-loop-x l = AreNumbers (ledger_at l.set l.slot l.allocs) l.x l.lags.items l.phases.items l.es.items l.ps.items
