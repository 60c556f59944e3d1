use Rattle.std.proofs.Common.{◌∙◌, ap}
use Rattle.pfx_segment.specs.Reading.{views}
use Rattle.pfx_replay.specs.Trails.{records_behind}
use Rattle.pfx_replay_audit.proofs.file.records_in.Goals as goal

pub returns-in_default : goal.returns-in_default
returns-in_default g c before frames none two one = (rw c.in_default.is at c.in_ok-frames.ensures) before frames none two one

pub returns : goal.returns
returns g c before frames none two one =
    let K = g.J.Job.kind in
    let base = c.args.base.now in
    let all = (rw c.in-Some.is at c.in_ok-frames.ensures) before frames none two one in
    c.in_ok-records.ensures ∙ ap (λ l. records_behind K base (views l)) c.deref.ensures.value ∙ ap (records_behind K base) all
