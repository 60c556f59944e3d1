use Rattle.std.proofs.Common.{◌∙◌, ◌∷◌, [], ap, subst, sym}
use Rattle.pfx_disk.specs.CallsMade.{HasMade, HasBrokenOff, HasKeptTo}
use Rattle.pfx_disk.specs.Disk.{IsHonest, Only}
use Rattle.pfx_disk.specs.Stop.{Sync}
use Rattle.pfx_disk.proofs.CallsMade.{sync_made, sync_broken, sync_within}
use Rattle.pfx_store_file.specs.Checkpoints.{is_begun}
use Rattle.pfx_store.proofs.Marking.{covers_begun, left_by, recovered_since}
use Rattle.pfx_store.proofs.store.Store.open.Goals as goal

pub invariant_of-result : goal.invariant_of-result
invariant_of-result g c = λ whole honest.
    (let V = g.D.Disk.view in
    let before = c.in-Ok.ensures.looks.honest (subst (λ f. IsHonest (V f.disk)) c.in-Ok-furnished.ensures.file honest) in
    (c.in-Ok-furnished.ensures.found (V c.args.disk).contents (c.in-Ok.ensures.opened before)).stands)

pub returns-in-Ok-furnished-clause-found : goal.returns-in-Ok-furnished-clause-found
returns-in-Ok-furnished-clause-found g c = λ honest. (c.in-Ok-furnished.ensures.found (g.D.Disk.view c.args.disk).contents (c.in-Ok.ensures.opened honest)).recovers

pub returns-in-Ok-furnished-clause-left : goal.returns-in-Ok-furnished-clause-left
returns-in-Ok-furnished-clause-left g c = λ honest f is.
    left_by c.in-Ok-furnished.journal.file.places.sizes.body c.in-Ok-furnished.journal.file.places.checkpoint f.parts.turned
    (ap (λ i. is_begun i.places.checkpoint) c.in-Ok-furnished.ensures.file ∙ c.in-Ok.ensures.going.unbegun)
    ((c.in-Ok-furnished.ensures.found (g.D.Disk.view c.args.disk).contents (c.in-Ok.ensures.opened honest)).turned f is)

pub returns-in-Ok-furnished-clause-durable : goal.returns-in-Ok-furnished-clause-durable
returns-in-Ok-furnished-clause-durable g c = λ honest.
    (let V = g.D.Disk.view in
    let K = g.J.Job.kind in
    let L = g.met.J.Job.laws in
    let j = c.in-Ok-furnished.journal in
    let stands = (c.in-Ok-furnished.ensures.found (V c.args.disk).contents (c.in-Ok.ensures.opened honest)).stands in
    record {
      images = recovered_since K L j.file.places j.state j.spelled.items (V j.file.disk) stands (g.met.D.Disk.only_now j.file.disk);
      marks = covers_begun K L j.file.places j.state j.spelled.items (V j.file.disk) stands (g.met.D.Disk.only_now j.file.disk) j.file.broken;
    })

pub returns-in-Ok-furnished-clause-acts : goal.returns-in-Ok-furnished-clause-acts
returns-in-Ok-furnished-clause-acts g c = λ honest.
    (let V = g.D.Disk.view in
    let a = V c.args.disk in
    let b = V c.in-Ok.opened.file.disk in
    let opened = c.in-Ok.ensures.opened honest in
    let leaves = c.in-Ok.ensures.looks.leaves honest in
    let same = sym c.in-Ok-furnished.ensures.file in
    record {
      made = subst (λ f. HasMade (Sync ∷ []) a (V f.disk)) same (sync_made a b leaves opened.kept.only);
      broken_off = tt;
      between = subst (λ f. HasKeptTo (Sync ∷ []) a (V f.disk)) same (sync_within a b leaves);
      only = subst (λ f. Only a.contents (V f.disk)) same opened.kept.only;
      file = (c.in-Ok-furnished.ensures.found a.contents opened).file;
    })

pub returns-in-Err-clause-acts : goal.returns-in-Err-clause-acts
returns-in-Err-clause-acts g c = λ honest.
    (let a = g.D.Disk.view c.args.disk in
    let b = g.D.Disk.view c.in-Err.fault.1 in
    let leaves = c.in-Err.ensures.looks.leaves honest in
    record { made = tt; broken_off = sync_broken a b leaves; between = sync_within a b leaves; only = tt; file = tt })

pub returns-clause-acts : goal.returns-clause-acts
returns-clause-acts g c = λ honest.
    (let V = g.D.Disk.view in
    let a = V c.args.disk in
    let b = V c.in-Ok.opened.file.disk in
    let leaves = c.in-Ok.ensures.looks.leaves honest in
    let same = sym c.in-Err-furnished.ensures.fault.1 in
    record {
      made = tt;
      broken_off = subst (λ (d : g.row.D.Denot). HasBrokenOff (Sync ∷ []) a (V d)) same (sync_broken a b leaves);
      between = subst (λ (d : g.row.D.Denot). HasKeptTo (Sync ∷ []) a (V d)) same (sync_within a b leaves);
      only = tt;
      file = tt;
    })

pub furnished-requires : goal.furnished-requires
furnished-requires g c = c.in-Ok.ensures.going

pub returns-in-Ok-furnished-clause-fresh : goal.returns-in-Ok-furnished-clause-fresh
returns-in-Ok-furnished-clause-fresh g c = (
  ap (λ i. i.broken) c.in-Ok-furnished.ensures.file ∙ c.in-Ok.ensures.going.whole,
  ap (λ i. is_begun i.places.checkpoint) c.in-Ok-furnished.ensures.file ∙ c.in-Ok.ensures.going.unbegun,
)
