use Rattle.std.proofs.Common.{◌≡◌, ◌+◌, take}
use Rattle.std.specs.Io.KnownBytes.{Appends}
use Rattle.pfx_program.specs.Groups.{told_count, told_refusals, told_text}
use Rattle.pfx_program.specs.Reports.{IsAdded}
use Rattle.pfx_program.proofs.groups.put_told.Given as goal

-- the lines of the first ones were written, and they are reported
abbrev pub invariant-loop-entry : goal.invariant-loop-entry
invariant-loop-entry g l = record {
  written : Appends (g.W.Printer.contents l.fn.output) (g.W.Printer.contents l.output) (told_text l.form (take l.entry-index l.told));
  place : l.at ≡ l.from + l.entry-index;
  added : IsAdded l.fn.report (told_count (take l.entry-index l.told)) (told_refusals (l.from + 1) (take l.entry-index l.told)) l.report;
}
