use Rattle.std.proofs.Common.{sym, ◌∙◌, ap}
use Rattle.pfx_machine.specs.Steps.{state_step, happening_in}
use Rattle.pfx_machine.proofs.Answering.{on_ok}
use Rattle.pfx_machine.proofs.Snoc.{outcome-snoc}
use Rattle.pfx_machine.proofs.state.State.apply.Goals as goal

pub returns-clause-outcome : goal.returns-clause-outcome
returns-clause-outcome g c = on_ok c.accept.result _ _
    (λ step B H old. step ∙ (ap (λ s. state_step g.J.Job.kind s (happening_in s c.args.command)) old ∙ sym (outcome-snoc g.J.Job.kind g.met.J.Job.laws B H c.args.command)))
    c.accept.ensures.step
