use Rattle.pfx_columns.proofs.Placing.{are_lanes}
use Rattle.pfx_bench_choice.proofs.take_classes.Goals as goal

pub classify-requires-clause-lanes : goal.classify-requires-clause-lanes
classify-requires-clause-lanes c =
    are_lanes c.args.ledger.now c.lags.result.now c.phases.result.now c.es.result.now c.ps.result.now c.total-total.ensures.ledger
    (record { lags = c.lags.ensures; phases = c.phases.ensures; es = c.es.ensures; ps = c.ps.ensures })
