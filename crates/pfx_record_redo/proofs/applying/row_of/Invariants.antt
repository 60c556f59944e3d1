use Rattle.std.proofs.Common.{◌≡◌, take, length}
use Rattle.pfx_record.specs.Records.{tasks_of}
use Rattle.pfx_record_redo.proofs.applying.row_of.Given as goal

abbrev pub invariant-loop-i : goal.invariant-loop-i
invariant-loop-i g l = record {
  long : length l.tasks ≡ 64;
  front : take l.i l.tasks ≡ take l.i (tasks_of l.row);
}
