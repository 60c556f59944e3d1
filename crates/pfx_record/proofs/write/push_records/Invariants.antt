use Rattle.std.proofs.Common.{◌≡◌, ◌≤◌, ◌+◌, ◌++◌, length, drop, map, vec_len, vec_capacity}
use Rattle.pfx_record.specs.Records.{plain, records_bytes}
use Rattle.pfx_record.proofs.write.push_records.Given as goal

abbrev pub invariant-loop-entry : goal.invariant-loop-entry
invariant-loop-entry g l = record {
  written : l.out.items ++ records_bytes g.J.Job.kind (map plain (drop l.entry-index l.records)) ≡ l.initial.out.items ++ records_bytes g.J.Job.kind (map plain l.records);
  room : vec_len l.out + length (records_bytes g.J.Job.kind (map plain (drop l.entry-index l.records))) ≤ vec_capacity l.out;
  grows : vec_capacity l.initial.out ≤ vec_capacity l.out;
}
