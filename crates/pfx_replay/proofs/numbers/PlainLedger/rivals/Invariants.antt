use Rattle.std.proofs.Common.{◌≡◌, ◌≤◌}
use Rattle.pfx_weights.specs.Rows.{count}
use Rattle.pfx_choice.specs.PfRows.{rival}
use Rattle.pfx_replay.specs.Shown.{ledger_of}
use Rattle.pfx_replay.proofs.numbers.PlainLedger.rivals.Given as goal

abbrev pub invariant-loop-y : goal.invariant-loop-y
invariant-loop-y l = record {
  number : l.number ≡ count l.y (rival (ledger_of l.self) l.x);
  few : l.number ≤ l.y;
}
