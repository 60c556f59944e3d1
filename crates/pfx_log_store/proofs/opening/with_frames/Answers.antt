use Rattle.std.proofs.Common.{sym, subst}
use Rattle.pfx_store_recover.specs.Looking.{Looks}
use Rattle.pfx_store_recover.proofs.Looking.{looks_then}
use Rattle.pfx_log_store.specs.Behind.{all_frames}
use Rattle.pfx_log_store.proofs.Opened.{fault_of, gap_of, opened_behind, same}
use Rattle.pfx_log_store.proofs.opening.with_frames.Goals as goal

pub returns-in-Err-clause-fault : goal.returns-in-Err-clause-fault
returns-in-Err-clause-fault g c honest h p s found are =
    fault_of g.J.Job.kind (g.D.Disk.view c.args.file.disk).contents c.args.last p.base.number (all_frames p) c.in-Err.fault (c.in-Err.ensures.exact honest h p s found are)
    (gap_of g.J.Job.kind g.met.J.Job.laws g.D.Disk.view h p s c.args.file.disk c.frames_behind.new.file.disk honest found c.in-Err.ensures.looks c.args.last)

pub returns-in-Ok-open-clause-opened : goal.returns-in-Ok-open-clause-opened
returns-in-Ok-open-clause-opened g c honest h p s found are =
    let between = c.into_disk-in-Ok.result in
    let looks : Looks (g.D.Disk.view c.args.file.disk) (g.D.Disk.view c.into_disk-in-Ok.result) = subst (λ d. Looks (g.D.Disk.view c.args.file.disk) (g.D.Disk.view d)) (sym c.into_disk-in-Ok.ensures) c.in-Ok.ensures.looks in
    let there = same g.J.Job.kind g.met.J.Job.laws g.D.Disk.view h p s c.args.file.disk between honest found looks in
    opened_behind g.J.Job.kind g.met.J.Job.laws g.D.Disk.view h p s c.args.file.disk between honest found looks c.args.last c.in-Ok.frames.items c.in-Ok-open.store
    c.in-Ok-open.ensures.looks c.in-Ok-open.ensures.fresh.0 (c.in-Ok-open.ensures.acts there.0).only (c.in-Ok-open.ensures.found there.0) (c.in-Ok.ensures.exact honest h p s found are)

pub returns-in-Ok-open-clause-looks : goal.returns-in-Ok-open-clause-looks
returns-in-Ok-open-clause-looks g c =
    let looks : Looks (g.D.Disk.view c.args.file.disk) (g.D.Disk.view c.into_disk-in-Ok.result) = subst (λ d. Looks (g.D.Disk.view c.args.file.disk) (g.D.Disk.view d)) (sym c.into_disk-in-Ok.ensures) c.in-Ok.ensures.looks in
    looks_then (g.D.Disk.view c.args.file.disk) (g.D.Disk.view c.into_disk-in-Ok.result) (g.D.Disk.view c.in-Ok-open.store.file.disk) looks c.in-Ok-open.ensures.looks
