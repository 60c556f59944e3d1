use Rattle.std.proofs.Common.{◌≡◌, ◌∙◌, ap, sym, subst, Err}
use Rattle.pfx_disk.specs.Disk.{HasFailed}
use Rattle.pfx_store_format.specs.Format.{format}
use Rattle.pfx_store_recover.specs.Looking.{IsKept, Looks}
use Rattle.pfx_store_recover.proofs.Looking.{failed_after, looks_then}
use Rattle.pfx_store_image.specs.Recovery.{found_of, recovered}
use Rattle.pfx_replay.proofs.Opens.{no_refusal, store_is}
use Rattle.pfx_replay_audit.proofs.file.read_file.Goals as goal

pub returns-in-Ok-history_on-clause-looks : goal.returns-in-Ok-history_on-clause-looks
returns-in-Ok-history_on-clause-looks g c =
    let view = g.D.Disk.view in
    looks_then (view c.args.disk) (view c.in-Ok.opened.file.disk) (view c.history_on.new.disk) c.in-Ok.ensures.looks
    (subst (λ d. Looks (view d) (view c.history_on.new.disk)) c.into_disk-disk.ensures c.history_on.ensures.call.looks)

pub returns-in-Ok-history_on-clause-file : goal.returns-in-Ok-history_on-clause-file
returns-in-Ok-history_on-clause-file g c honest =
    let K = format g.J.Job.kind in
    let view = g.D.Disk.view in
    let o = c.in-Ok.opened in
    let bytes = (view c.args.disk).contents in
    let opened = c.in-Ok.ensures.opened honest in
    let store = store_is K o.header bytes o.file.places o.state o.middle (view o.file.disk) opened in
    let kept = subst (λ d. IsKept bytes (view d)) (sym c.into_disk-disk.ensures) opened.kept in
    let exact = c.history_on.ensures.exact bytes kept opened.parts store (sym opened.file.are.area) (sym opened.file.are.segment) (sym opened.file.are.turned) in
    record {
      store = found_of o.header opened.parts o.state;
      found_is = opened.found;
      is = rw c.in-Ok-history_on.is at exact;
    }

pub returns-clause-looks : goal.returns-clause-looks
returns-clause-looks g c =
    let view = g.D.Disk.view in
    looks_then (view c.args.disk) (view c.in-Ok.opened.file.disk) (view c.history_on.new.disk) c.in-Ok.ensures.looks
    (subst (λ d. Looks (view d) (view c.history_on.new.disk)) c.into_disk-disk.ensures c.history_on.ensures.call.looks)

pub returns-clause-device : goal.returns-clause-device
returns-clause-device g c is =
    let view = g.D.Disk.view in
    failed_after (view c.args.disk) (view c.in-Ok.opened.file.disk) (view c.history_on.new.disk) c.in-Ok.ensures.looks
    (subst (λ d. HasFailed (view d) (view c.history_on.new.disk)) c.into_disk-disk.ensures (c.history_on.ensures.call.device (c.in-Err-history_on.is ∙ ap (λ e. Err e) is)))

pub returns-clause-refused : goal.returns-clause-refused
returns-clause-refused g c honest =
    let K = format g.J.Job.kind in
    let view = g.D.Disk.view in
    let o = c.in-Ok.opened in
    let bytes = (view c.args.disk).contents in
    let opened = c.in-Ok.ensures.opened honest in
    let store = store_is K o.header bytes o.file.places o.state o.middle (view o.file.disk) opened in
    let kept = subst (λ d. IsKept bytes (view d)) (sym c.into_disk-disk.ensures) opened.kept in
    let exact = c.history_on.ensures.exact bytes kept opened.parts store (sym opened.file.are.area) (sym opened.file.are.segment) (sym opened.file.are.turned) in
    no_refusal c.in-Err-history_on.fault (λ refusal. recovered K bytes ≡ Err refusal) (rw c.in-Err-history_on.is at exact)
