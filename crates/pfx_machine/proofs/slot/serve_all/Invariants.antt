use Rattle.std.proofs.Common.{◌≡◌, drop}
use Rattle.pfx_machine.specs.Steps.{served}
use Rattle.pfx_machine.proofs.slot.serve_all.Given as goal

abbrev pub invariant-loop-i : goal.invariant-loop-i
invariant-loop-i g l = served g.J.Job.kind (drop l.i l.row) l.jobs ≡ served g.J.Job.kind l.row l.fn.jobs
