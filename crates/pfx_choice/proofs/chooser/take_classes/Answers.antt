use Rattle.std.proofs.Common.{◌≡◌, length, ap, ◌∙◌}
use Rattle.pfx_columns.specs.Ledgers.{total}
use Rattle.pfx_columns.specs.Columns.{AreNumbers}
use Rattle.pfx_columns.proofs.Shown.{written}
use Rattle.pfx_columns.proofs.Placing.{are_lanes}
use Rattle.pfx_choice.proofs.Classing.{classes_are}
use Rattle.pfx_choice.proofs.chooser.take_classes.Goals as goal

pub classify-requires-clause-lanes : goal.classify-requires-clause-lanes
classify-requires-clause-lanes c =
    let g = c.args.ledger.now in
    are_lanes g c.lags.result.now c.phases.result.now c.es.result.now c.ps.result.now c.total-total.ensures.ledger
    (record { lags = c.lags.ensures; phases = c.phases.ensures; es = c.es.ensures; ps = c.ps.ensures })

pub returns : goal.returns
returns c =
    let g = c.args.ledger.now in
    let old = c.if-len-total.classes in
    let out = c.classify.new.out in
    let places : AreNumbers g (total g) c.lags.result.now c.phases.result.now c.es.result.now c.ps.result.now = record { lags = c.lags.ensures; phases = c.phases.ensures; es = c.es.ensures; ps = c.ps.ensures } in
    let is = written out old.items old.len (c.classify.auto.out ∙ ap length c.deref_mut.ensures.value) old.ok.0 in
    classes_are g c.lags.result.now c.phases.result.now c.es.result.now c.ps.result.now _ c.total-total.ensures.ledger places (is ∙ c.classify.ensures)
