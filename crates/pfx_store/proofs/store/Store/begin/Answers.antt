use Rattle.std.proofs.Common.{ℕ, subst, sym}
use Rattle.pfx_store_header.specs.Headers.{IsSegmentSize}
use Rattle.pfx_weights.specs.Sets.{FilledSet}
use Rattle.pfx_store.specs.Making.{IsSizeFault}
use Rattle.pfx_store.proofs.Made.{left_alone, refused_first, still_none}
use Rattle.pfx_store.proofs.Marking.{covers_begun, recovered_since}
use Rattle.pfx_store.proofs.store.Store.begin.Goals as goal

pub returns-in-Err-clause-unmade : goal.returns-in-Err-clause-unmade
returns-in-Err-clause-unmade g c =
    let s = c.args.state in
    let of_set = subst (λ (set : FilledSet). IsSizeFault set.workers c.segment.result c.in-Err.fault) (sym c.requires) c.in-Err.ensures.0 in
    let of_state = subst (λ (n : ℕ). IsSizeFault s.ledger.set.workers n c.in-Err.fault) c.segment.ensures of_set in
    refused_first g.D.Disk.view s.ledger.set.workers s.segment c.args.disk c.in-Err.fault of_state c.in-Err.ensures.1

pub made-requires : goal.made-requires
made-requires g c =
    let s = c.args.state in
    let of_set = subst (λ (set : FilledSet). IsSegmentSize set.workers c.segment.result) (sym c.requires) c.in-Ok.ensures in
    record { same = c.requires; size = subst (λ (n : ℕ). IsSegmentSize s.ledger.set.workers n) c.segment.ensures of_set }

pub returns-in-Err-clause-recovers : goal.returns-in-Err-clause-recovers
returns-in-Err-clause-recovers g c honest = still_none g.J.Job.kind c.args.state (g.D.Disk.view c.args.disk)

pub returns-in-Err-clause-vacant : goal.returns-in-Err-clause-vacant
returns-in-Err-clause-vacant g c = λ honest some. left_alone (g.D.Disk.view c.args.disk) honest

pub returns-in-Ok-made-clause-durable : goal.returns-in-Ok-made-clause-durable
returns-in-Ok-made-clause-durable g c = λ honest.
    (let K = g.J.Job.kind in
    let L = g.met.J.Job.laws in
    let j = c.in-Ok-made.journal in
    let disk = g.D.Disk.view j.file.disk in
    record {
      images = recovered_since K L j.file.places j.state j.spelled.items disk (c.in-Ok-made.ensures.stands honest) (g.met.D.Disk.only_now j.file.disk);
      marks = covers_begun K L j.file.places j.state j.spelled.items disk (c.in-Ok-made.ensures.stands honest) (g.met.D.Disk.only_now j.file.disk) j.file.broken;
    })
