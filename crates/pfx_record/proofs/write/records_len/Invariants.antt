use Rattle.std.proofs.Common.{◌≡◌, ◌+◌, length, drop, map}
use Rattle.pfx_record.specs.Records.{plain, records_bytes}
use Rattle.pfx_record.proofs.write.records_len.Given as goal

abbrev pub invariant-loop-entry : goal.invariant-loop-entry
invariant-loop-entry g l = l.len + length (records_bytes g.J.Job.kind (map plain (drop l.entry-index l.records))) ≡ length (records_bytes g.J.Job.kind (map plain l.records))
