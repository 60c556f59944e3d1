use Rattle.std.proofs.Common.{arith, ◌<◌, ◌≤◌, length}
use Rattle.pfx_machine.specs.Steps.{served}
use Rattle.pfx_machine.proofs.Serving.{serve_next, serve_end}
use Rattle.pfx_machine.proofs.slot.serve_all.Goals as goal

pub loop-i-preserved : goal.loop-i-preserved
loop-i-preserved g c =
    let within : c.loop-i.i < length c.args.row.now = omega (arith, c.loop-i-test.true, c.len-i-end.ensures.count) in
    serve_next g.J.Job.kind c.args.row.now c.loop-i.i c.get.result c.loop-i.jobs c.serve_at.new.jobs (served g.J.Job.kind c.args.row.now c.args.jobs.now)
    c.len-i-end.ensures.row.1 within c.get.ensures c.serve_at.ensures c.loop-i.invariant

pub returns : goal.returns
returns g c =
    let past : length c.args.row.now ≤ c.loop-i.i = omega (arith, c.loop-i-test.false, c.len-i-end.ensures.count) in
    serve_end g.J.Job.kind c.args.row.now c.loop-i.i c.loop-i.jobs (served g.J.Job.kind c.args.row.now c.args.jobs.now) past c.loop-i.invariant
