use Rattle.std.proofs.Common.{◌+◌, refl, sym, ◌∙◌, ap, subst, Ok}
use Rattle.pfx_log.specs.Logs.{block_of, with_block}
use Rattle.pfx_store_recover.specs.Looking.{Looks}
use Rattle.pfx_log_store.specs.Opening.{IsOpenBehind}
use Rattle.pfx_log_store.proofs.Beginning.{covered_held, covered_more}
use Rattle.pfx_log_store.proofs.Opened.{left_of_file, map_ok, recovered_of}
use Rattle.pfx_log_store.proofs.Staying.{holds_still, match_by, stays}
use Rattle.pfx_log_store.proofs.beside.LoggedStore.open.Goals as goal

pub returns-in-Ok-clause-found : goal.returns-in-Ok-clause-found
returns-in-Ok-clause-found g c honest =
    let there = recovered_of g.J.Job.kind g.met.J.Job.laws g.D.Disk.view (g.D.Disk.view c.args.disk).contents c.args.log.place.last c.in-Ok.store c.in-Ok.frames.items (c.in-Ok.ensures.opened honest) in
    map_ok _ _ c.go_on.result (λ beside same. there ∙ ap (λ s. Ok s.state) (sym same)) c.go_on.ensures.store

pub returns-in-Ok-clause-logged : goal.returns-in-Ok-clause-logged
returns-in-Ok-clause-logged g c honest start all held is_open go =
    let opened = subst (λ l. IsOpenBehind g.J.Job.kind g.D.Disk.view (g.D.Disk.view c.args.disk).contents c.args.log.place.last c.in-Ok.store l) (sym c.deref.ensures.value) (c.in-Ok.ensures.opened honest) in
    c.go_on.ensures.logged (g.D.Disk.view c.args.disk).contents opened start all held is_open go

pub returns-in-Err-clause-covered : goal.returns-in-Err-clause-covered
returns-in-Err-clause-covered g c honest only start all held is_open go =
    let bytes = (g.D.Disk.view c.args.disk).contents in
    let one = covered_held g.J.Job.kind g.met.J.Job.laws start all held bytes go in
    stays g.D.Disk g.J.Job.kind g.met.D.Disk.only_now start all held held (g.L.Disk.view c.args.log.disk) (g.L.Disk.view c.args.log.disk) c.args.disk (g.D.Disk.view c.in-Err.disk) honest only c.in-Err.ensures.looks one one
    (holds_still g.met.L.Disk.only_now held c.args.log c.args.log is_open held refl)

pub returns-in-Ok-clause-covered : goal.returns-in-Ok-clause-covered
returns-in-Ok-clause-covered g c honest only start all held is_open go =
    let bytes = (g.D.Disk.view c.args.disk).contents in
    let opened = subst (λ l. IsOpenBehind g.J.Job.kind g.D.Disk.view (g.D.Disk.view c.args.disk).contents c.args.log.place.last c.in-Ok.store l) (sym c.deref.ensures.value) (c.in-Ok.ensures.opened honest) in
    let one = covered_held g.J.Job.kind g.met.J.Job.laws start all held bytes go in
    let other = covered_more g.J.Job.kind g.met.J.Job.laws g.D.Disk.view start all held bytes c.in-Ok.store c.args.log c.deref.result.now opened go is_open (c.args.log.place.last + 1) in
    let more = with_block held (block_of (c.args.log.place.last + 1) c.in-Ok.store.state.number c.deref.result.now) in
    match_by _ _ _ _ _ _ c.go_on.result (c.go_on.ensures.log held is_open) c.go_on.ensures.store c.go_on.ensures.disk
    (λ beside holds same. stays g.D.Disk g.J.Job.kind g.met.D.Disk.only_now start all held more (g.L.Disk.view c.args.log.disk) (g.L.Disk.view beside.log.disk) c.args.disk (g.D.Disk.view beside.store.file.disk) honest only
    (subst (λ s. Looks (g.D.Disk.view c.args.disk) (g.D.Disk.view s.file.disk)) (sym same) c.in-Ok.ensures.looks) one other holds)
    (λ e holds same. stays g.D.Disk g.J.Job.kind g.met.D.Disk.only_now start all held more (g.L.Disk.view c.args.log.disk) (g.L.Disk.view e.2.disk) c.args.disk (g.D.Disk.view e.1) honest only
    (subst (λ d. Looks (g.D.Disk.view c.args.disk) (g.D.Disk.view d)) (sym same) c.in-Ok.ensures.looks) one other holds)

pub returns-in-Err-clause-left : goal.returns-in-Err-clause-left
returns-in-Err-clause-left g c = left_of_file c.args.log c.args.log c.in-Err.fault c.in-Err.ensures.filed
