use Rattle.std.proofs.Common.{◌≡◌, drop}
use Rattle.pfx_weights.specs.Rows.{is_in}
use Rattle.pfx_replay.proofs.ledger.holds.Given as goal

abbrev pub invariant-loop-x : goal.invariant-loop-x
invariant-loop-x l = is_in l.row l.task ≡ is_in (drop l.x-index l.row) l.task
