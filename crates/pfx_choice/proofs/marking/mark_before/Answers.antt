use Rattle.std.proofs.Common.{◌∙◌, ap, arith}
use Rattle.pfx_choice.proofs.CutRows.{ready_at, ready_before}
use Rattle.pfx_choice.proofs.marking.mark_before.Goals.{then-cut-gt0-2+in-Ok, else-cut-gt0-2}
use Rattle.pfx_choice.proofs.marking.mark_before.Goals as goal

pub returns : goal.returns
returns c = elim c.if-cut-gt0-2.branch [
  | then-cut-gt0-2+in-Ok w ↦
      ready_at c.args.ledger.now c.args.cut c.args.places.now c.mark_below.new.places c.if-cut-gt0-2.found.items c.total-total.ensures.ledger c.requires.places c.requires.cut c.mark_below.auto.places c.mark_below.ensures
      (ap (λ v. v.items) w.found-is ∙ w.in-Ok.ensures)
  | else-cut-gt0-2 w ↦
      ready_before c.args.ledger.now c.args.cut c.args.places.now c.mark_below.new.places c.if-cut-gt0-2.found.items c.total-total.ensures.ledger c.requires.places c.requires.cut (omega (arith, w.if-cut-gt0-2.false)) c.mark_below.auto.places c.mark_below.ensures
      (ap (λ v. v.items) w.found-is ∙ c.clear.ensures.items)
]
