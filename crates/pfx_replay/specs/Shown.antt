-- Which state the plain numbers are.
use Rattle.pfx_columns.specs.Ledgers.{Ledger}
use Rattle.pfx_replay.specs.Numbers.{numbers_ledger}
use Rattle.pfx_replay.specs.declared.numbers.PlainLedger.{PlainLedger}

abbrev pub ledger_of : PlainLedger → Ledger
ledger_of l = numbers_ledger l.workers l.real l.hyper l.weights.items l.slot l.allocations.items
