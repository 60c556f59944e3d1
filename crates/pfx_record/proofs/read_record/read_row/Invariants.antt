use Rattle.std.proofs.Common.{◌≡◌, ◌≤◌, length, vec_len, vec_capacity}
use Rattle.pfx_record.proofs.Rows.{RowSoFar}
use Rattle.pfx_record.proofs.read_record.read_row.Given as goal

abbrev pub invariant-loop-i : goal.invariant-loop-i
invariant-loop-i g l = record {
  so_far : RowSoFar g.J.Job.kind l.bytes l.row.items l.at l.low;
  count : vec_len l.row ≡ l.i;
  room : l.workers ≤ vec_capacity l.row;
  inside : l.at ≤ length l.bytes;
}
