use Rattle.std.proofs.Common.{◌≡◌, sym, ap, ◌∙◌, map, None}
use Rattle.pfx_jobs.specs.declared.quantum.Quantum.{Quantum}
use Rattle.pfx_machine.specs.Slots.{Deal, deal}
use Rattle.pfx_book_slot.proofs.Placed.{no_results}
use Rattle.pfx_book_slot.proofs.sealing.open_on.Goals as goal

pub returns-in-Ok-clause-none_back : goal.returns-in-Ok-clause-none_back
returns-in-Ok-clause-none_back g c =
    c.in-Ok.ensures.none_back
    ∙ no_results (λ (q : Quantum g.row.J.Denot g.J.Job). deal q.number q.slot q.task q.before) c.in_ok-row.quanta.items
    ∙ ap (map (λ (d : Deal g.row.J.Denot). None)) (sym c.in-Ok.ensures.quanta)
