use Rattle.pfx_machine.specs.Plain.{empty}
use Rattle.pfx_store.proofs.Made.{left_alone, refused_first, still_none}
use Rattle.pfx_store.proofs.Marking.{covers_begun, recovered_since}
use Rattle.pfx_store.proofs.store.Store.init.Goals as goal

pub returns-in-Err-clause-unmade : goal.returns-in-Err-clause-unmade
returns-in-Err-clause-unmade g c = refused_first g.D.Disk.view c.args.set.now.workers c.args.segment c.args.disk c.in-Err.fault c.in-Err.ensures.0 c.in-Err.ensures.1

pub returns-in-Err-clause-recovers : goal.returns-in-Err-clause-recovers
returns-in-Err-clause-recovers g c honest = still_none g.J.Job.kind (empty c.args.set.now c.args.segment) (g.D.Disk.view c.args.disk)

pub returns-in-Err-clause-vacant : goal.returns-in-Err-clause-vacant
returns-in-Err-clause-vacant g c = λ honest some. left_alone (g.D.Disk.view c.args.disk) honest

pub returns-in-Ok-made_empty-clause-durable : goal.returns-in-Ok-made_empty-clause-durable
returns-in-Ok-made_empty-clause-durable g c = λ honest.
    (let K = g.J.Job.kind in
    let L = g.met.J.Job.laws in
    let j = c.in-Ok-made_empty.journal in
    let disk = g.D.Disk.view j.file.disk in
    record {
      images = recovered_since K L j.file.places j.state j.spelled.items disk (c.in-Ok-made_empty.ensures.stands honest) (g.met.D.Disk.only_now j.file.disk);
      marks = covers_begun K L j.file.places j.state j.spelled.items disk (c.in-Ok-made_empty.ensures.stands honest) (g.met.D.Disk.only_now j.file.disk) j.file.broken;
    })
