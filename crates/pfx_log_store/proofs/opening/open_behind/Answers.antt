use Rattle.std.proofs.Common.{sym, ◌∙◌, ap, subst}
use Rattle.std.specs.Prelude.{IfErr, IfOk}
use Rattle.pfx_disk.specs.Disk.{IsHonest}
use Rattle.pfx_store_format.specs.Format.{format}
use Rattle.pfx_store_recover.specs.Looking.{Looks}
use Rattle.pfx_store_recover.proofs.Looking.{looks_then}
use Rattle.pfx_store_image.specs.Recovery.{found}
use Rattle.pfx_store_file.specs.Holding.{ArePlaces}
use Rattle.pfx_log_store.specs.Opening.{IsOpenBehind, IsOpenFault}
use Rattle.pfx_log_store.proofs.Staying.{match_both}
use Rattle.pfx_log_store.proofs.opening.open_behind.Goals as goal

pub returns-in-Ok-clause-opened : goal.returns-in-Ok-clause-opened
returns-in-Ok-clause-opened g c honest =
    let K = g.J.Job.kind in
    let view = g.D.Disk.view in
    let o = c.in-Ok.ensures.opened honest in
    let contents = ap (λ f. (g.D.Disk.view f.disk).contents) c.file_of.ensures ∙ o.kept.contents in
    subst (λ l. IfOk c.with_frames.result (λ opened. IsOpenBehind g.J.Job.kind g.D.Disk.view l c.args.last opened.0 opened.1.items)) contents
    (c.with_frames.ensures.opened (subst (λ f. IsHonest (g.D.Disk.view f.disk)) (sym c.file_of.ensures) o.kept.honest) c.in-Ok.opened.header o.parts c.in-Ok.opened.state (ap (found (format K)) contents ∙ o.found)
    (subst (λ f. ArePlaces (format g.J.Job.kind) c.in-Ok.opened.header o.parts f.places) (sym c.file_of.ensures) o.file.are))

pub returns-in-Ok-clause-fault : goal.returns-in-Ok-clause-fault
returns-in-Ok-clause-fault g c honest =
    let K = g.J.Job.kind in
    let o = c.in-Ok.ensures.opened honest in
    let contents = ap (λ f. (g.D.Disk.view f.disk).contents) c.file_of.ensures ∙ o.kept.contents in
    subst (λ l. IfErr c.with_frames.result (λ e. IsOpenFault g.J.Job.kind l c.args.last e.0)) contents
    (c.with_frames.ensures.fault (subst (λ f. IsHonest (g.D.Disk.view f.disk)) (sym c.file_of.ensures) o.kept.honest) c.in-Ok.opened.header o.parts c.in-Ok.opened.state (ap (found (format K)) contents ∙ o.found)
    (subst (λ f. ArePlaces (format g.J.Job.kind) c.in-Ok.opened.header o.parts f.places) (sym c.file_of.ensures) o.file.are))

pub returns-in-Ok-clause-looks : goal.returns-in-Ok-clause-looks
returns-in-Ok-clause-looks g c =
    let looks : Looks (g.D.Disk.view c.args.disk) (g.D.Disk.view c.file_of.result.disk) = subst (λ f. Looks (g.D.Disk.view c.args.disk) (g.D.Disk.view f.disk)) (sym c.file_of.ensures) c.in-Ok.ensures.looks in
    match_both _ _ _ _ c.with_frames.result c.with_frames.ensures.looks (λ opened further. looks_then _ (g.D.Disk.view c.file_of.result.disk) _ looks further) (λ e further. looks_then _ (g.D.Disk.view c.file_of.result.disk) _ looks further)
