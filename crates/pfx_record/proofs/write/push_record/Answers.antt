use Rattle.std.proofs.Common.{length, ap, arith}
use Rattle.pfx_record.specs.Records.{plain, record_bytes}
use Rattle.pfx_record.proofs.Again.{length-number_bytes}
use Rattle.pfx_record.proofs.write.push_record.Goals as goal

pub push_u16-requires-in-Withdraw : goal.push_u16-requires-in-Withdraw
push_u16-requires-in-Withdraw g c =
    let long = ap (λ entry. length (record_bytes g.J.Job.kind (plain entry))) c.in-Withdraw.is in
    omega (arith, c.requires, long, c.push_byte-in-Withdraw.ensures.len, c.push_byte-in-Withdraw.ensures.room, length-number_bytes 2 c.in-Withdraw.task)
