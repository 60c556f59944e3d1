use Rattle.pfx_front_engine.proofs.Promising.{same}
use Rattle.pfx_front_engine.specs.declared.engine.FrontEngine.{FrontEngine}
use Rattle.pfx_front_engine.proofs.engine.FrontEngineEngine.settled.Goals as goal

pub returns-clause-same : goal.returns-clause-same
returns-clause-same g c = same g.J.Job.kind g.met.J.Job.laws {E = FrontEngine g.row.J.Denot g.row.B.Denot g.row.K.Denot g.row.R.Denot g.row.K-Seat.Denot g.J.Job g.B.Since g.B.Named g.B.Room g.B.Begun g.B.Naming g.B.Charted} (λ e. e.client) g.B.Named.start _ _ c.settle.ensures.stays
