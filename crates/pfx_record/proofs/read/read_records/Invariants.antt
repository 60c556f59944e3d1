use Rattle.std.proofs.Common.{◌≡◌, ◌≤◌, length, map, vec_len, vec_capacity}
use Rattle.pfx_record.specs.Records.{plain}
use Rattle.pfx_record.proofs.Bodies.{SoFar}
use Rattle.pfx_record.proofs.read.read_records.Given as goal

abbrev pub invariant-loop-i : goal.invariant-loop-i
invariant-loop-i g l = record {
  so_far : SoFar g.J.Job.kind g.met.J.Job.laws l.form l.body (map plain l.records.items) l.at;
  count : vec_len l.records ≡ l.i;
  room : l.count ≤ vec_capacity l.records;
  inside : l.at ≤ length l.body;
}
