use Rattle.std.proofs.Common.{◌≡◌, ◌*◌}
use Rattle.pfx_c.proofs.Laying.{IsLaid}
use Rattle.pfx_c.proofs.plans.lay_rows.Given as goal

abbrev pub invariant-loop-made : goal.invariant-loop-made
invariant-loop-made l = record { laid : IsLaid l.fn.ledger l.ledger l.made l.at l.fn.places l.places; at : l.at ≡ l.made * l.m }
