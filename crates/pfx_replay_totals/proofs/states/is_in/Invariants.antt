use Rattle.std.proofs.Common.{◌≡◌, drop}
use Rattle.pfx_record.specs.Records.{tasks_of}
use Rattle.pfx_weights.specs.Rows.{is_in}
use Rattle.pfx_replay_totals.proofs.states.is_in.Given as goal

abbrev pub invariant-loop-place : goal.invariant-loop-place
invariant-loop-place g l = is_in (tasks_of l.row) l.task ≡ is_in (tasks_of (drop l.place-index l.row)) l.task
