use Rattle.pfx_record.specs.Batches.{batch_of}
use Rattle.pfx_store.proofs.Behinds.{behind_is, few_bytes}
use Rattle.pfx_store.proofs.appending.behind_gate.Goals as goal

pub returns : goal.returns
returns g c =
    let K = g.J.Job.kind in
    let L = g.met.J.Job.laws in
    let batch = batch_of c.args.batch.now.first c.args.batch.now.records.items in
    let short = few_bytes K L batch c.args.batch.now.workers c.args.batch.now.real c.args.batch.now.fits in
    behind_is K L batch c.args.batch.now.workers c.args.batch.now.real c.args.frame.now c.args.batch.now.fits short c.requires
