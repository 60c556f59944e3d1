use Rattle.std.proofs.Common.{◌≡◌, ◌∙◌, ap, arith, length}
use Rattle.pfx_choice.specs.Choices.{contending}
use Rattle.pfx_choice.proofs.Picking.{length-ranks}
use Rattle.pfx_choice.proofs.CutRows.{ready_of_all}
use Rattle.pfx_choice.proofs.chooser.Chooser.sort_by_classes.Goals as goal

pub returns-then-contending-places : goal.returns-then-contending-places
returns-then-contending-places c =
    let g = c.args.ledger.now in
    let all : length c.sort_out.new.found.items ≡ contending g = ap length c.in-Ok.ensures.ranks ∙ length-ranks g in
    (c.requires, omega (arith, c.in-Ok.ensures.number, c.len-contending.ensures, all), c.workers-m.ensures, omega arith)

pub returns : goal.returns
returns c =
    ready_of_all c.args.ledger.now c.workers-m.result c.in-Ok.urgent c.sort_out.new.classes.items c.sort_out.new.found.items c.total-total.ensures.ledger c.in-Ok.ensures.ranks c.in-Ok.ensures.classes c.in-Ok.ensures.number c.workers-m.ensures c.if-urgent-m.false
    (omega (arith, c.len-contending.ensures, c.if-contending-places.false))
