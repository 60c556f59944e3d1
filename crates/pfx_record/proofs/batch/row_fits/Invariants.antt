use Rattle.std.proofs.Common.{◌≡◌, drop}
use Rattle.pfx_record.specs.Records.{rises_from, tasks_of}
use Rattle.pfx_record.proofs.batch.row_fits.Given as goal

abbrev pub invariant-loop-place : goal.invariant-loop-place
invariant-loop-place g l = rises_from 0 (tasks_of l.row) ≡ rises_from l.low (tasks_of (drop l.place-index l.row))
