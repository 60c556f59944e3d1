use Rattle.std.proofs.Common.{arith, ap, ◌∙◌}
use Rattle.pfx_choice.proofs.Refining.{ready_split, keys_shown}
use Rattle.pfx_choice.proofs.marking.mark_by_keys.Goals as goal

pub returns-then-m-marked : goal.returns-then-m-marked
returns-then-m-marked c =
    let g = c.args.ledger.now in
    let d = c.args.cut.place in
    let keys = c.deref.result.now in
    let are = keys_shown g d c.args.rounds c.take.new.self.of_tasks.items keys (c.deref.ensures.value ∙ ap (λ v. v.items) c.guess_cut-end.ensures) c.in-Ok.ensures in
    ready_split g keys d c.args.rounds c.guess_cut-end.result.0.number c.guess_cut-end.result.1 c.workers-m.result c.count_below-marked.result c.split.new.places c.mark_below.new.places c.split.new.found.items
    c.total-total.ensures.ledger are c.requires.cut.some c.requires.cut.few (c.in-Ok-true.ensures c.in-Ok-true.field-0-test) c.workers-m.ensures c.count_below-marked.ensures.number c.if-marked-m.true (omega (arith, c.if-m-marked.true, c.len.ensures)) c.mark_below.auto.places c.mark_below.ensures
