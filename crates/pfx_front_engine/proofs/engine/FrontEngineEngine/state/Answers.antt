use Rattle.std.proofs.Common.{sym, subst}
use Rattle.pfx_front_engine.proofs.Promising.{same, copied}
use Rattle.pfx_front_engine.specs.Keeping.{KeepsBy}
use Rattle.pfx_front_engine.specs.declared.engine.FrontEngine.{FrontEngine}
use Rattle.pfx_front_engine.proofs.engine.FrontEngineEngine.state.Goals as goal

pub returns-in-Err-clause-same : goal.returns-in-Err-clause-same
returns-in-Err-clause-same g c = same g.J.Job.kind g.met.J.Job.laws {E = FrontEngine g.row.J.Denot g.row.B.Denot g.row.K.Denot g.row.R.Denot g.row.K-Seat.Denot g.J.Job g.B.Since g.B.Named g.B.Room g.B.Begun g.B.Naming g.B.Charted} (λ e. e.client) g.B.Named.start _ _ c.settle.ensures.stays

pub returns-in-Ok-state-clause-copies : goal.returns-in-Ok-state-clause-copies
returns-in-Ok-state-clause-copies g c =
    copied g.J.Job.kind g.met.J.Job.laws {E = FrontEngine g.row.J.Denot g.row.B.Denot g.row.K.Denot g.row.R.Denot g.row.K-Seat.Denot g.J.Job g.B.Since g.B.Named g.B.Room g.B.Begun g.B.Naming g.B.Charted} (λ e. e.client) g.B.Named.start c.args.self.now (record { rt = c.args.self.now.rt; front = c.args.self.now.front; client = c.settle.new.client }) c.settle.ensures.stays c.in-Ok-state.copy c.in-Ok-state.ensures.copies

pub returns-in-Ok-state-clause-same : goal.returns-in-Ok-state-clause-same
returns-in-Ok-state-clause-same g c =
    same g.J.Job.kind g.met.J.Job.laws {E = FrontEngine g.row.J.Denot g.row.B.Denot g.row.K.Denot g.row.R.Denot g.row.K-Seat.Denot g.J.Job g.B.Since g.B.Named g.B.Room g.B.Begun g.B.Naming g.B.Charted} (λ e. e.client) g.B.Named.start _ _ (subst (λ notes. KeepsBy g.B.Named.start.number c.args.self.now.client _ 0 notes) (sym c.state.ensures.same) c.settle.ensures.stays)

pub returns-in-Err-state-clause-same : goal.returns-in-Err-state-clause-same
returns-in-Err-state-clause-same g c =
    same g.J.Job.kind g.met.J.Job.laws {E = FrontEngine g.row.J.Denot g.row.B.Denot g.row.K.Denot g.row.R.Denot g.row.K-Seat.Denot g.J.Job g.B.Since g.B.Named g.B.Room g.B.Begun g.B.Naming g.B.Charted} (λ e. e.client) g.B.Named.start _ _ (subst (λ notes. KeepsBy g.B.Named.start.number c.args.self.now.client _ 0 notes) (sym c.state.ensures.same) c.settle.ensures.stays)
