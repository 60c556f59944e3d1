use Rattle.std.proofs.Common.{arith}
use Rattle.pfx_record.proofs.Single.{withdraw_only, withdraw_is}
use Rattle.pfx_record.proofs.read_record.read_withdraw.Goals as goal

pub returns-then-bytes-lt3-clause-none : goal.returns-then-bytes-lt3-clause-none
returns-then-bytes-lt3-clause-none g c = withdraw_only g.J.Job.kind g.met.J.Job.laws c.args.bytes.now c.requires.tag c.if-bytes-lt3.true

pub returns-clause-found : goal.returns-clause-found
returns-clause-found g c =
    withdraw_is g.J.Job.kind g.met.J.Job.laws c.args.bytes.now c.u16_at-task.result c.requires.some c.requires.tag (omega arith) c.u16_at-task.ensures.begins
