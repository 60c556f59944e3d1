use Rattle.std.proofs.Common.{◌≡◌, ◌≤◌}
use Rattle.pfx_weights.specs.Rows.{count}
use Rattle.pfx_columns.specs.Ledgers.{class}
use Rattle.pfx_choice.specs.Choices.{is_contending}
use Rattle.pfx_replay.specs.Shown.{ledger_of}
use Rattle.pfx_replay.proofs.numbers.PlainLedger.contending.Given as goal

abbrev pub invariant-loop-x : goal.invariant-loop-x
invariant-loop-x l = record {
  number : l.number ≡ count l.x (λ k. is_contending (class (ledger_of l.self) k));
  few : l.number ≤ l.x;
}
