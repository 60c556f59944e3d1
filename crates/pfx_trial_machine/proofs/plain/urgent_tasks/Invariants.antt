use Rattle.std.proofs.Common.{◌≡◌, ◌≤◌}
use Rattle.pfx_weights.specs.Rows.{count}
use Rattle.pfx_columns.specs.Ledgers.{class}
use Rattle.pfx_choice.specs.Choices.{is_urgent}
use Rattle.pfx_trial_machine.proofs.plain.urgent_tasks.Given as goal

abbrev pub invariant-loop-x : goal.invariant-loop-x
invariant-loop-x l = record { number : l.number ≡ count l.x (λ k. is_urgent (class l.ledger k)); within : l.number ≤ l.x }
