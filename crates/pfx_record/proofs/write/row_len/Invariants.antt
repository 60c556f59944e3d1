use Rattle.std.proofs.Common.{◌≡◌, ◌+◌, length, drop}
use Rattle.pfx_record.specs.Records.{row_bytes}
use Rattle.pfx_record.proofs.write.row_len.Given as goal

abbrev pub invariant-loop-place : goal.invariant-loop-place
invariant-loop-place g l = l.len + length (row_bytes g.J.Job.kind (drop l.place-index l.row)) ≡ length (row_bytes g.J.Job.kind l.row)
