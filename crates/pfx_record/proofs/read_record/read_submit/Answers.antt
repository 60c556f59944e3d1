use Rattle.std.proofs.Common.{arith}
use Rattle.pfx_record.proofs.Single.{submit_only, submit_is}
use Rattle.pfx_record.proofs.read_record.read_submit.Goals as goal

pub returns-then-bytes-lt-GIVEN-clause-none : goal.returns-then-bytes-lt-GIVEN-clause-none
returns-then-bytes-lt-GIVEN-clause-none g c = submit_only g.J.Job.kind g.met.J.Job.laws c.args.bytes.now c.requires.tag (λ s long b. omega (arith, long, c.if-bytes-lt-GIVEN.true))

pub returns-in-None-clause-none : goal.returns-in-None-clause-none
returns-in-None-clause-none g c = submit_only g.J.Job.kind g.met.J.Job.laws c.args.bytes.now c.requires.tag (λ s long b. c.in-None.ensures.none s b)

pub returns-in-Some-clause-found : goal.returns-in-Some-clause-found
returns-in-Some-clause-found g c =
    submit_is g.J.Job.kind g.met.J.Job.laws c.args.bytes.now c.u16_at-task.result c.in-Some.job c.requires.some c.requires.tag (omega arith) c.u16_at-task.ensures.begins c.in-Some.ensures.found
