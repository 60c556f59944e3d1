use Rattle.pfx_store_format.proofs.Taking.{TakenSoFar}
use Rattle.pfx_store_format.proofs.frames.take_records.Given as goal

abbrev pub invariant-loop-i : goal.invariant-loop-i
invariant-loop-i g l = TakenSoFar g.J.Job.kind g.met.J.Job.laws l.form l.body l.initial.state l.at l.i l.state
