use Rattle.std.proofs.Common.{ap, arith, length, length-append}
use Rattle.pfx_record.specs.Numbers.{number_bytes}
use Rattle.pfx_record.specs.Records.{plain, record_bytes}
use Rattle.pfx_record.proofs.Again.{length-number_bytes}
use Rattle.pfx_record.proofs.Bodies.{weights_len}
use Rattle.pfx_record.proofs.write.record_len.Goals as goal

pub returns-in-Submit : goal.returns-in-Submit
returns-in-Submit g c =
    let K = g.J.Job.kind in
    let long = ap (λ entry. length (record_bytes K (plain entry))) c.in-Submit.is in
    omega (arith, long, length-append (number_bytes 2 c.in-Submit.task) (K.spelling c.in-Submit.job), length-number_bytes 2 c.in-Submit.task, g.met.J.Job.laws.long c.in-Submit.job)

pub returns-in-Withdraw : goal.returns-in-Withdraw
returns-in-Withdraw g c =
    let long = ap (λ entry. length (record_bytes g.J.Job.kind (plain entry))) c.in-Withdraw.is in
    omega (arith, long, length-number_bytes 2 c.in-Withdraw.task)

pub returns-in-Reweigh : goal.returns-in-Reweigh
returns-in-Reweigh g c =
    let long = ap (λ entry. length (record_bytes g.J.Job.kind (plain entry))) c.in-Reweigh.is in
    omega (arith, long, weights_len c.in-Reweigh.weights, ap length c.as_slice.ensures)
