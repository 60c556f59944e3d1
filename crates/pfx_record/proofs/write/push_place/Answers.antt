use Rattle.std.proofs.Common.{arith, length-append}
use Rattle.pfx_record.specs.Numbers.{number_bytes}
use Rattle.pfx_record.specs.Records.{state_bytes}
use Rattle.pfx_record.proofs.Again.{length-number_bytes}
use Rattle.pfx_record.proofs.write.push_place.Goals as goal

pub push_u16-requires : goal.push_u16-requires
push_u16-requires g c =
    let place = c.args.place.now in
    omega (arith, c.requires, length-append (number_bytes 2 place.task) (state_bytes g.J.Job.kind place.state), length-number_bytes 2 place.task)
