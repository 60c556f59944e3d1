use Rattle.std.proofs.Common.{◌-◌, ◌^◌}
use Rattle.pfx_program.proofs.RunLemmas.{Progress}
use Rattle.pfx_program.proofs.scripts.run_script.Given as goal

-- the records so far were run
abbrev pub invariant-groups : goal.invariant-groups
invariant-groups g l = Progress g.E.Engine.promise l.fn.run.form l.fn.run.at_refusal l.fn.script l.script l.fn.engine l.engine l.report (g.W.Printer.contents l.fn.output) (g.W.Printer.contents l.output)

-- each turn reads a record more
abbrev pub decreases-groups : goal.decreases-groups
decreases-groups g l = 2 ^ 64 - l.script.place
