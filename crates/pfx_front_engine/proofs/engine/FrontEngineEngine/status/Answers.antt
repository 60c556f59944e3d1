use Rattle.std.proofs.Common.{sym, subst}
use Rattle.pfx_front_engine.proofs.Promising.{same, shown}
use Rattle.pfx_front_engine.specs.Keeping.{KeepsBy}
use Rattle.pfx_front_engine.specs.declared.engine.FrontEngine.{FrontEngine}
use Rattle.pfx_front_engine.proofs.engine.FrontEngineEngine.status.Goals as goal

pub returns-in-Err-clause-same : goal.returns-in-Err-clause-same
returns-in-Err-clause-same g c = same g.J.Job.kind g.met.J.Job.laws {E = FrontEngine g.row.J.Denot g.row.B.Denot g.row.K.Denot g.row.R.Denot g.row.K-Seat.Denot g.J.Job g.B.Since g.B.Named g.B.Room g.B.Begun g.B.Naming g.B.Charted} (λ e. e.client) g.B.Named.start _ _ c.settle.ensures.stays

pub returns-in-Ok-clause-shows : goal.returns-in-Ok-clause-shows
returns-in-Ok-clause-shows g c =
    let B = g.B.Named.start in
    shown g.J.Job.kind g.met.J.Job.laws {E = FrontEngine g.row.J.Denot g.row.B.Denot g.row.K.Denot g.row.R.Denot g.row.K-Seat.Denot g.J.Job g.B.Since g.B.Named g.B.Room g.B.Begun g.B.Naming g.B.Charted} (λ e. e.client) B c.args.self.now (record { rt = c.args.self.now.rt; front = c.args.self.now.front; client = c.settle.new.client }) c.settle.ensures.stays c.in-Ok.board c.in-Ok.ensures.shows

pub returns-in-Ok-clause-same : goal.returns-in-Ok-clause-same
returns-in-Ok-clause-same g c =
    same g.J.Job.kind g.met.J.Job.laws {E = FrontEngine g.row.J.Denot g.row.B.Denot g.row.K.Denot g.row.R.Denot g.row.K-Seat.Denot g.J.Job g.B.Since g.B.Named g.B.Room g.B.Begun g.B.Naming g.B.Charted} (λ e. e.client) g.B.Named.start _ _ (subst (λ notes. KeepsBy g.B.Named.start.number c.args.self.now.client _ 0 notes) (sym c.board.ensures.same) c.settle.ensures.stays)

pub returns-in-Err-board-clause-same : goal.returns-in-Err-board-clause-same
returns-in-Err-board-clause-same g c =
    same g.J.Job.kind g.met.J.Job.laws {E = FrontEngine g.row.J.Denot g.row.B.Denot g.row.K.Denot g.row.R.Denot g.row.K-Seat.Denot g.J.Job g.B.Since g.B.Named g.B.Room g.B.Begun g.B.Naming g.B.Charted} (λ e. e.client) g.B.Named.start _ _ (subst (λ notes. KeepsBy g.B.Named.start.number c.args.self.now.client _ 0 notes) (sym c.board.ensures.same) c.settle.ensures.stays)
