use Rattle.std.proofs.Common.{◌≡◌, ◌≤◌, ◌+◌, ◌++◌, length, drop, vec_len, vec_capacity}
use Rattle.pfx_record.specs.Records.{row_bytes}
use Rattle.pfx_record.proofs.write.push_row.Given as goal

abbrev pub invariant-loop-place : goal.invariant-loop-place
invariant-loop-place g l = record {
  written : l.out.items ++ row_bytes g.J.Job.kind (drop l.place-index l.row) ≡ l.initial.out.items ++ row_bytes g.J.Job.kind l.row;
  room : vec_len l.out + length (row_bytes g.J.Job.kind (drop l.place-index l.row)) ≤ vec_capacity l.out;
  grows : vec_capacity l.initial.out ≤ vec_capacity l.out;
}
