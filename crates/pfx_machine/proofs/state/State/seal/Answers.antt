use Rattle.std.proofs.Common.{sym, ◌∙◌, ap}
use Rattle.pfx_machine.specs.Steps.{state_step, happening_in}
use Rattle.pfx_machine.specs.declared.command.Command.TheVariants.{Slot}
use Rattle.pfx_machine.proofs.Snoc.{outcome-snoc}
use Rattle.pfx_machine.proofs.state.State.seal.Goals as goal

pub returns-clause-outcome : goal.returns-clause-outcome
returns-clause-outcome g c = λ B H old.
    c.close_row.ensures.step ∙ (ap (λ s. state_step g.J.Job.kind s (happening_in s Slot)) old ∙ sym (outcome-snoc g.J.Job.kind g.met.J.Job.laws B H Slot))
