use Rattle.std.specs.Prelude.{take}
use Rattle.std.specs.Io.KnownBytes.{Appends}
use Rattle.pfx_program.specs.Script.{text_of}
use Rattle.pfx_program.specs.Running.{ran_steps}
use Rattle.pfx_program.proofs.scripts.put_replies.Given as goal

-- the lines of the first ones were written
abbrev pub invariant-loop-entry : goal.invariant-loop-entry
invariant-loop-entry g l = Appends (g.W.Printer.contents l.fn.output) (g.W.Printer.contents l.output) (text_of (ran_steps l.form (take l.entry-index l.said)))
