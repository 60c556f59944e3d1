use Rattle.pfx_front_engine.proofs.Answering.{engine_fault}
use Rattle.pfx_front_engine.proofs.Promising.{all_done, all_doubted, some_left}
use Rattle.pfx_front_engine.specs.declared.engine.FrontEngine.{FrontEngine}
use Rattle.pfx_front.specs.Sole.{state_of}
use Rattle.pfx_front_engine.proofs.engine.FrontEngineEngine.all.Goals as goal

pub returns-in-Err-clause-left : goal.returns-in-Err-clause-left
returns-in-Err-clause-left g c =
    some_left g.J.Job.kind g.met.J.Job.laws {E = FrontEngine g.row.J.Denot g.row.B.Denot g.row.K.Denot g.row.R.Denot g.row.K-Seat.Denot g.J.Job g.B.Since g.B.Named g.B.Room g.B.Begun g.B.Naming g.B.Charted} (λ e. e.client) g.B.Named.start _ _ c.args.commands.items c.in-Err.ensures.err

pub returns-in-Err-clause-fails : goal.returns-in-Err-clause-fails
returns-in-Err-clause-fails g c = engine_fault g.J.Job.kind g.B.Named.start c.ask_all.new.client (state_of g.J.Job.kind g.B.Named.start c.args.self.now.client) c.in-Err.fault c.in-Err.ensures.fails

pub returns-in-Ok-settle-clause-done : goal.returns-in-Ok-settle-clause-done
returns-in-Ok-settle-clause-done g c =
    all_done g.J.Job.kind g.met.J.Job.laws {E = FrontEngine g.row.J.Denot g.row.B.Denot g.row.K.Denot g.row.R.Denot g.row.K-Seat.Denot g.J.Job g.B.Since g.B.Named g.B.Room g.B.Begun g.B.Naming g.B.Charted} (λ e. e.client) g.B.Named.start _ _ c.ask_all.new.client c.in-Ok-settle.ensures.stays c.args.commands.items c.in-Ok.told.items
    c.in-Ok.ensures.ok c.in-Ok-settle.ensures.settled

pub returns-in-Err-settle-clause-left : goal.returns-in-Err-settle-clause-left
returns-in-Err-settle-clause-left g c =
    all_doubted g.J.Job.kind g.met.J.Job.laws {E = FrontEngine g.row.J.Denot g.row.B.Denot g.row.K.Denot g.row.R.Denot g.row.K-Seat.Denot g.J.Job g.B.Since g.B.Named g.B.Room g.B.Begun g.B.Naming g.B.Charted} (λ e. e.client) g.B.Named.start _ _ c.ask_all.new.client c.in-Err-settle.ensures.stays c.args.commands.items c.in-Ok.told.items
    c.in-Ok.ensures.ok

pub returns-in-Err-settle-clause-fails : goal.returns-in-Err-settle-clause-fails
returns-in-Err-settle-clause-fails g c = engine_fault g.J.Job.kind g.B.Named.start c.settle.new.client (state_of g.J.Job.kind g.B.Named.start c.args.self.now.client) c.in-Err-settle.fault c.in-Err-settle.ensures.fails
