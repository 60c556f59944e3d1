use Rattle.std.proofs.Common.{◌≡◌, ◌≤◌}
use Rattle.pfx_weights.specs.Rows.{count}
use Rattle.pfx_choice.specs.PfRows.{rival}
use Rattle.pfx_trial_machine.proofs.plain.beaten_by.Given as goal

abbrev pub invariant-loop-y : goal.invariant-loop-y
invariant-loop-y l = record { number : l.number ≡ count l.y (rival l.ledger l.x); within : l.number ≤ l.y }
