use Rattle.std.specs.Prelude.{◌≡◌, ◌+◌}
use Rattle.std.proofs.Common.{arith}
use Rattle.pfx_jobs.specs.Steps.{times}
use Rattle.pfx_jobs.proofs.FromLaws.{left-times}
use Rattle.pfx_jobs.proofs.laws.jobs_end.Goals as goal

pub returns : goal.returns
returns g c start =
    let K = g.J.Job.kind in
    let e : K.left (times (K.left start) K.stepped start) + K.left start ≡ K.left start = left-times K g.met.J.Job.laws start (K.left start) (omega arith) in
    omega arith
