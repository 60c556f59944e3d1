use Rattle.pfx_machine.proofs.Serving.{serve_placed, serve_past}
use Rattle.pfx_machine.proofs.slot.serve_at.Goals as goal

pub returns-then-at-jobs : goal.returns-then-at-jobs
returns-then-at-jobs g c =
    serve_placed g.J.Job.kind c.args.task c.from-at.result c.args.jobs.now c.serve.new.place c.index-jobs-at.result
    c.from-at.ensures c.if-at-jobs.true c.serve.ensures

pub returns-else-at-jobs : goal.returns-else-at-jobs
returns-else-at-jobs g c = serve_past g.J.Job.kind c.args.task c.from-at.result c.args.jobs.now c.from-at.ensures c.if-at-jobs.false
