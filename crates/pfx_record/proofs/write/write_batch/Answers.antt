use Rattle.std.proofs.Common.{ap, arith, length, map}
use Rattle.pfx_record.specs.Records.{plain, records_bytes}
use Rattle.pfx_record.proofs.Bodies.{short_batch}
use Rattle.pfx_record.proofs.write.write_batch.Goals as goal

pub records_len-len-requires : goal.records_len-len-requires
records_len-len-requires g c =
    let batch = c.args.batch.now in
    let short = short_batch g.J.Job.kind g.met.J.Job.laws batch.workers batch.real batch.first (map plain batch.records.items) batch.fits in
    let same = ap (λ records. length (records_bytes g.J.Job.kind (map plain records))) c.deref.ensures.value in
    omega (arith, same, short.small)

pub overflow_cast-len : goal.overflow_cast-len
overflow_cast-len g c =
    let batch = c.args.batch.now in
    let short = short_batch g.J.Job.kind g.met.J.Job.laws batch.workers batch.real batch.first (map plain batch.records.items) batch.fits in
    let same = ap (λ records. length (records_bytes g.J.Job.kind (map plain records))) c.deref.ensures.value in
    omega (arith, same, short.small, c.records_len-len.ensures)

pub push_u32-requires : goal.push_u32-requires
push_u32-requires g c =
    let batch = c.args.batch.now in
    let short = short_batch g.J.Job.kind g.met.J.Job.laws batch.workers batch.real batch.first (map plain batch.records.items) batch.fits in
    omega (arith, short.whole, c.requires, c.push_byte.ensures.len, c.push_byte.ensures.room)

pub push_u64-requires : goal.push_u64-requires
push_u64-requires g c =
    let batch = c.args.batch.now in
    let short = short_batch g.J.Job.kind g.met.J.Job.laws batch.workers batch.real batch.first (map plain batch.records.items) batch.fits in
    omega (arith, short.whole, c.requires, c.push_byte.ensures.len, c.push_byte.ensures.room, c.push_u32.ensures.len, c.push_u32.ensures.room)

pub push_u16-requires : goal.push_u16-requires
push_u16-requires g c =
    let batch = c.args.batch.now in
    let short = short_batch g.J.Job.kind g.met.J.Job.laws batch.workers batch.real batch.first (map plain batch.records.items) batch.fits in
    omega (arith, short.whole, c.requires, c.push_byte.ensures.len, c.push_byte.ensures.room, c.push_u32.ensures.len, c.push_u32.ensures.room, c.push_u64.ensures.len, c.push_u64.ensures.room)

pub push_records-requires : goal.push_records-requires
push_records-requires g c =
    let batch = c.args.batch.now in
    let short = short_batch g.J.Job.kind g.met.J.Job.laws batch.workers batch.real batch.first (map plain batch.records.items) batch.fits in
    let same = ap (λ records. length (records_bytes g.J.Job.kind (map plain records))) c.deref-2.ensures.value in
    omega (arith, same, short.whole, c.requires, c.push_byte.ensures.len, c.push_byte.ensures.room, c.push_u32.ensures.len, c.push_u32.ensures.room, c.push_u64.ensures.len, c.push_u64.ensures.room, c.push_u16.ensures.len, c.push_u16.ensures.room)
