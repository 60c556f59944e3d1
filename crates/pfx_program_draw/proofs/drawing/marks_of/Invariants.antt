use Rattle.std.proofs.Common.{◌≡◌, length, take}
use Rattle.pfx_program_draw.specs.Drawing.{marks_of}
use Rattle.pfx_program_draw.proofs.drawing.marks_of.Given as goal

abbrev pub invariant-loop-row : goal.invariant-loop-row
invariant-loop-row l = record {
  marks : l.marks.items ≡ marks_of (take l.row-index l.rows) l.fn.x;
  number : length l.marks.items ≡ l.row-index;
}
