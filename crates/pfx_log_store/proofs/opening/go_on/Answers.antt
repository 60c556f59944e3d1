use Rattle.std.proofs.Common.{◌+◌, length, rules, subst, sym}
use Rattle.pfx_log.specs.Logs.{block_of, with_block}
use Rattle.pfx_log_store.specs.Fitting.{FitsIn}
use Rattle.pfx_log_store.proofs.Beginning.{can_fit}
use Rattle.pfx_log_store.proofs.Opened.{left_of_file, map_ok}
use Rattle.pfx_log_store.proofs.Staying.{holds_still, map_err, match_of}
use Rattle.pfx_log_store.specs.Joining.{IsOfFile}
use Rattle.pfx_log_store.proofs.opening.go_on.Goals as goal

pub returns-then-fit-clause-logged : goal.returns-then-fit-clause-logged
returns-then-fit-clause-logged g c bytes opened start all held is_open go =
    let fits : FitsIn (length c.args.frames.now) c.args.store.file.places = search rules in
    map_ok _ _ c.begin.result (λ beside logged. (held, logged))
    (c.begin.ensures.logged start all held
    (can_fit g.J.Job.kind g.met.J.Job.laws g.D.Disk.view start all held bytes c.args.store c.args.log c.args.frames.now opened go is_open (c.is_broken-broken.ensures.stands opened.whole opened.honest) fits))

pub returns-then-fit-clause-log : goal.returns-then-fit-clause-log
returns-then-fit-clause-log g c held is_open =
    match_of _ _ _ _ c.begin.result c.begin.ensures.log c.begin.ensures.back
    (λ beside same. holds_still g.met.L.Disk.only_now held c.args.log beside.log is_open (with_block held (block_of (c.args.log.place.last + 1) c.args.store.state.number c.args.frames.now)) same)
    (λ e same. holds_still g.met.L.Disk.only_now held c.args.log e.2 is_open (with_block held (block_of (c.args.log.place.last + 1) c.args.store.state.number c.args.frames.now)) same.1)

pub returns-then-fit-clause-left : goal.returns-then-fit-clause-left
returns-then-fit-clause-left g c = map_err _ _ c.begin.result c.begin.ensures.fault (λ e same. left_of_file c.args.log e.2 e.0 (subst (λ f. IsOfFile f) (sym same) tt))
