use Rattle.pfx_program.specs.Script.{slot_steps}
use Rattle.pfx_program.specs.Running.{run_of}
use Rattle.pfx_program.proofs.SlotLemmas.{Slotting}
use Rattle.pfx_program.proofs.scripts.run_slots.Given as goal

abbrev pub invariant-loop-left : goal.invariant-loop-left
invariant-loop-left g l = Slotting g.E.Engine.promise l.fn.run.form (slot_steps (run_of g.E.Engine.promise l.fn.run.form l.fn.engine l.fn.accepted) l.fn.count) l.fn.engine l.engine l.fn.accepted l.accepted
    l.left (g.W.Printer.contents l.fn.output) (g.W.Printer.contents l.output)

abbrev pub decreases-loop-left : goal.decreases-loop-left
decreases-loop-left g l = l.left
