use Rattle.std.proofs.Common.{◌∙◌}
use Rattle.pfx_machine.specs.Reweighing.{new_set}
use Rattle.pfx_machine.proofs.Answering.{on_ok}
use Rattle.pfx_machine.proofs.Places.{state_step-given, state_step-new, state_step-taken}
use Rattle.pfx_machine.proofs.state.State.accept.Goals as goal

pub returns-in_default-clause-step : goal.returns-in_default-clause-step
returns-in_default-clause-step g c = rw (c.put.ensures, c.in-Submit.is) (state_step-given g.J.Job.kind _ _ _)

pub returns-in_default-fault_of_withdraw-clause-step :
    goal.returns-in_default-fault_of_withdraw-clause-step
returns-in_default-fault_of_withdraw-clause-step g c = rw (c.put-in-Withdraw.ensures, c.in-Withdraw.is) (state_step-taken g.J.Job.kind _ _)

pub returns-in-Reweigh-clause-step : goal.returns-in-Reweigh-clause-step
returns-in-Reweigh-clause-step g c = rw c.in-Reweigh.is (on_ok c.reweigh.result _ _ (λ step. step ∙ state_step-new g.J.Job.kind c.args.self.now (new_set c.args.self.now.ledger.set c.in-Reweigh.workers c.in-Reweigh.weights)) c.reweigh.ensures.step)
