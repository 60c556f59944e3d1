use Rattle.std.proofs.Common.{◌≡◌, ◌<◌, ℕ, true}
use Rattle.pfx_columns.specs.Ledgers.{task}
use Rattle.pfx_columns.specs.Levels.{is_even}
use Rattle.pfx_replay.specs.Shown.{ledger_of}
use Rattle.pfx_replay.proofs.numbers.PlainLedger.is_level.Given as goal

-- the lags of the first tasks are zero
abbrev pub invariant-loop-x : goal.invariant-loop-x
invariant-loop-x l = (y : ℕ) → y < l.x → is_even (ledger_of l.self).slot (task (ledger_of l.self) y) ≡ true
