use Rattle.std.proofs.Common.{ap, arith, length, map}
use Rattle.pfx_record.specs.Records.{plain, records_bytes}
use Rattle.pfx_record.proofs.Bodies.{short_batch, short_most}
use Rattle.pfx_record.proofs.write.batch_len.Goals as goal

pub records_len-requires : goal.records_len-requires
records_len-requires g c =
    let batch = c.args.batch.now in
    let short = short_batch g.J.Job.kind g.met.J.Job.laws batch.workers batch.real batch.first (map plain batch.records.items) batch.fits in
    let same = ap (λ records. length (records_bytes g.J.Job.kind (map plain records))) c.deref.ensures.value in
    omega (arith, same, short.small)

pub overflow_add-result : goal.overflow_add-result
overflow_add-result g c =
    let batch = c.args.batch.now in
    let short = short_batch g.J.Job.kind g.met.J.Job.laws batch.workers batch.real batch.first (map plain batch.records.items) batch.fits in
    let same = ap (λ records. length (records_bytes g.J.Job.kind (map plain records))) c.deref.ensures.value in
    omega (arith, same, short.small, c.records_len.ensures)

pub returns-clause-value : goal.returns-clause-value
returns-clause-value g c =
    let batch = c.args.batch.now in
    let short = short_batch g.J.Job.kind g.met.J.Job.laws batch.workers batch.real batch.first (map plain batch.records.items) batch.fits in
    let same = ap (λ records. length (records_bytes g.J.Job.kind (map plain records))) c.deref.ensures.value in
    omega (arith, same, short.whole, c.records_len.ensures)

pub returns-clause-bound : goal.returns-clause-bound
returns-clause-bound g c =
    let batch = c.args.batch.now in
    let short = short_batch g.J.Job.kind g.met.J.Job.laws batch.workers batch.real batch.first (map plain batch.records.items) batch.fits in
    let same = ap (λ records. length (records_bytes g.J.Job.kind (map plain records))) c.deref.ensures.value in
    omega (arith, same, short_most g.J.Job.kind g.met.J.Job.laws batch.workers batch.real batch.first (map plain batch.records.items) short, c.records_len.ensures)
