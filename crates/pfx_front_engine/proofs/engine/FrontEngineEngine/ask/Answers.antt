use Rattle.pfx_front_engine.proofs.Promising.{done, doubted, not_done}
use Rattle.pfx_front_engine.specs.declared.engine.FrontEngine.{FrontEngine}
use Rattle.pfx_front_engine.proofs.engine.FrontEngineEngine.ask.Goals as goal

pub returns-in-Err-clause-not_done : goal.returns-in-Err-clause-not_done
returns-in-Err-clause-not_done g c = not_done g.J.Job.kind g.met.J.Job.laws {E = FrontEngine g.row.J.Denot g.row.B.Denot g.row.K.Denot g.row.R.Denot g.row.K-Seat.Denot g.J.Job g.B.Since g.B.Named g.B.Room g.B.Begun g.B.Naming g.B.Charted} (λ e. e.client) g.B.Named.start _ _ c.args.command c.in-Err.why c.in-Err.ensures.err

pub returns-in-Ok-settle-clause-done : goal.returns-in-Ok-settle-clause-done
returns-in-Ok-settle-clause-done g c =
    done g.J.Job.kind g.met.J.Job.laws {E = FrontEngine g.row.J.Denot g.row.B.Denot g.row.K.Denot g.row.R.Denot g.row.K-Seat.Denot g.J.Job g.B.Since g.B.Named g.B.Room g.B.Begun g.B.Naming g.B.Charted} (λ e. e.client) g.B.Named.start _ _ c.ask.new.client c.in-Ok-settle.ensures.stays c.args.command c.in-Ok.reply.0 c.in-Ok.reply.1 c.in-Ok.ensures.ok c.in-Ok-settle.ensures.settled

pub returns-in-Err-settle-clause-not_done : goal.returns-in-Err-settle-clause-not_done
returns-in-Err-settle-clause-not_done g c =
    doubted g.J.Job.kind g.met.J.Job.laws {E = FrontEngine g.row.J.Denot g.row.B.Denot g.row.K.Denot g.row.R.Denot g.row.K-Seat.Denot g.J.Job g.B.Since g.B.Named g.B.Room g.B.Begun g.B.Naming g.B.Charted} (λ e. e.client) g.B.Named.start _ _ c.ask.new.client c.in-Err-settle.ensures.stays c.args.command c.in-Ok.reply.0 c.in-Ok.reply.1 c.in-Err-settle.fault c.in-Ok.ensures.ok c.in-Err-settle.ensures.fails
    c.in-Err-settle.ensures.memory
