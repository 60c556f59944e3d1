use Rattle.std.proofs.Common.{◌≡◌}
use Rattle.pfx_weights.specs.Rows.{members}
use Rattle.pfx_choice.specs.PfRows.{pf_set}
use Rattle.pfx_trial_machine.proofs.plain.plain_row.Given as goal

abbrev pub invariant-loop-x : goal.invariant-loop-x
invariant-loop-x l = l.row.items ≡ members l.x (pf_set l.ledger)
