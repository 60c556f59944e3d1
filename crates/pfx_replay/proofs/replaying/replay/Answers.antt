use Rattle.std.proofs.Common.{◌≡◌, Err, sym, subst}
use Rattle.pfx_disk.specs.Disk.{HasFailed}
use Rattle.pfx_store_format.specs.Format.{format}
use Rattle.pfx_store_recover.specs.Looking.{IsKept, Looks}
use Rattle.pfx_store_recover.specs.declared.faults.OpenFault.TheVariants.{Device}
use Rattle.pfx_store_recover.proofs.Looking.{failed_after, looks_then}
use Rattle.pfx_store_image.specs.Recovery.{found_of, recovered}
use Rattle.pfx_replay.specs.Trails.{IsReplayed}
use Rattle.pfx_store_image.specs.Recovery.{found}
use Rattle.pfx_replay.proofs.Opens.{device_beside, disk_beside, err_beside, no_refusal, ok_beside, store_is}
use Rattle.pfx_replay.proofs.replaying.replay.Goals as goal

pub returns-clause-looks : goal.returns-clause-looks
returns-clause-looks g c =
    let view = g.D.Disk.view in
    let read = subst (λ d. Looks (view d) (view c.verdict_on-verdict.new.disk)) c.into_disk-disk.ensures c.verdict_on-verdict.ensures.call.looks in
    disk_beside c.verdict_on-verdict.result c.verdict_on-verdict.new.disk (λ d. Looks (view c.args.disk) (view d)) c.with_disk.result c.with_disk.ensures.disk
    (looks_then (view c.args.disk) (view c.in-Ok.opened.file.disk) (view c.verdict_on-verdict.new.disk) c.in-Ok.ensures.looks read)

pub returns-clause-device : goal.returns-clause-device
returns-clause-device g c =
    let view = g.D.Disk.view in
    let failed : c.verdict_on-verdict.result ≡ Err Device → HasFailed (view c.in-Ok.opened.file.disk) (view c.verdict_on-verdict.new.disk) =
    λ is. subst (λ d. HasFailed (view d) (view c.verdict_on-verdict.new.disk)) c.into_disk-disk.ensures (c.verdict_on-verdict.ensures.call.device is) in
    device_beside c.verdict_on-verdict.result c.verdict_on-verdict.new.disk (λ d. HasFailed (view c.args.disk) (view d)) c.with_disk.result c.with_disk.ensures.answer c.with_disk.ensures.disk
    (λ is. failed_after (view c.args.disk) (view c.in-Ok.opened.file.disk) (view c.verdict_on-verdict.new.disk) c.in-Ok.ensures.looks (failed is))

pub returns-clause-verdict : goal.returns-clause-verdict
returns-clause-verdict g c honest =
    let K = format g.J.Job.kind in
    let view = g.D.Disk.view in
    let o = c.in-Ok.opened in
    let bytes = (view c.args.disk).contents in
    let opened = c.in-Ok.ensures.opened honest in
    let store = store_is K o.header bytes o.file.places o.state o.middle (view o.file.disk) opened in
    let kept = subst (λ d. IsKept bytes (view d)) (sym c.into_disk-disk.ensures) opened.kept in
    let judged = c.verdict_on-verdict.ensures.exact bytes kept opened.parts o.state store (sym opened.file.are.area) (sym opened.file.are.segment) (sym opened.file.are.turned) in
    ok_beside c.verdict_on-verdict.result c.with_disk.result c.with_disk.ensures.answer (λ v. IsReplayed g.J.Job.kind g.J.Units.unit bytes (found K bytes) v) (λ v is.
    let judged_of = rw is at judged in
    record { found = found_of o.header opened.parts o.state; read_is = opened.found; way = judged_of.0; way_is = judged_of.1; is = judged_of.2 })

pub returns-clause-refused : goal.returns-clause-refused
returns-clause-refused g c honest =
    let K = format g.J.Job.kind in
    let view = g.D.Disk.view in
    let o = c.in-Ok.opened in
    let bytes = (view c.args.disk).contents in
    let opened = c.in-Ok.ensures.opened honest in
    let store = store_is K o.header bytes o.file.places o.state o.middle (view o.file.disk) opened in
    let kept = subst (λ d. IsKept bytes (view d)) (sym c.into_disk-disk.ensures) opened.kept in
    let judged = c.verdict_on-verdict.ensures.exact bytes kept opened.parts o.state store (sym opened.file.are.area) (sym opened.file.are.segment) (sym opened.file.are.turned) in
    err_beside c.verdict_on-verdict.result c.with_disk.result c.with_disk.ensures.answer _ (λ e is. (let none = rw is at judged in no_refusal e (λ refusal. recovered K bytes ≡ Err refusal) none))
