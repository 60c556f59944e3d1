use Rattle.pfx_program.proofs.StepLemmas.{same_then}
use Rattle.pfx_program.proofs.scripts.looked.Goals as goal

pub returns-in_err-state-clause-same : goal.returns-in_err-state-clause-same
returns-in_err-state-clause-same g c =
    same_then g.E.Engine.promise g.met.E.Engine.laws c.args.engine.now c.status.new.self c.state.new.self c.status.ensures.same (λ h. c.in_ok-board.ensures.settled) c.state.ensures.same

pub returns-clause-same : goal.returns-clause-same
returns-clause-same g c =
    same_then g.E.Engine.promise g.met.E.Engine.laws c.args.engine.now c.status.new.self c.state.new.self c.status.ensures.same (λ h. c.in_ok-board.ensures.settled) c.state.ensures.same
