use Rattle.std.proofs.Common.{◌≡◌, ◌+◌, sym, ◌∙◌, ap}
use Rattle.pfx_columns.specs.Ledgers.{start}
use Rattle.pfx_machine.specs.Plain.{Plain, whole}
use Rattle.pfx_machine.specs.Reweighing.{new_set, renewed}
use Rattle.pfx_machine.specs.Steps.{state_step, happening_in}
use Rattle.pfx_machine.specs.declared.command.Command.TheVariants.{Reweigh}
use Rattle.pfx_machine.proofs.Places.{state_step-new}
use Rattle.pfx_machine.proofs.Snoc.{outcome-snoc}
use Rattle.pfx_machine.proofs.state.State.begin.Goals as goal

pub returns-clause-outcome : goal.returns-clause-outcome
returns-clause-outcome g c = λ workers weights is B H old.
    let K = g.J.Job.kind in
    let now = c.args.self.now in
    let s : Plain g.row.J.Denot = record { number = c.self.inside.number; from = c.self.inside.from; ledger = c.self.inside.ledger; jobs = c.self.inside.jobs.items; segment = c.self.inside.segment } in
    let slot : c.slot-slot.result ≡ whole s = c.slot-slot.ensures.slot ∙ sym (ap whole c.self.view_is) in
    let ledger : c.ledger-ledger.result ≡ start c.args.epoch = c.ledger-ledger.ensures.start in
    let made : record { number = s.number + 1; from = c.slot-slot.result; ledger = c.ledger-ledger.result; jobs = s.jobs; segment = s.segment } ≡ renewed s c.args.epoch =
    λ i. record { number = s.number + 1; from = slot i; ledger = ledger i; jobs = s.jobs; segment = s.segment } in
    made
    ∙ (ap (λ t. renewed t c.args.epoch) c.self.view_is
    ∙ (ap (renewed now) is
    ∙ (state_step-new K now (new_set now.ledger.set workers weights)
    ∙ (ap (λ t. state_step K t (happening_in t (Reweigh workers weights))) old ∙ sym (outcome-snoc K g.met.J.Job.laws B H (Reweigh workers weights))))))
