use Rattle.std.proofs.Common.{◌≡◌, ◌+◌, ◌∙◌, ap, refl, subst, sym}
use Rattle.pfx_disk.specs.Disk.{Leaves}
use Rattle.pfx_log.specs.Acts.{Grows}
use Rattle.pfx_log.specs.Files.{IsOpen}
use Rattle.pfx_log.specs.Logs.{block_of, with_block}
use Rattle.pfx_log_store.proofs.Beginning.{can_catch_up}
use Rattle.pfx_log_store.specs.Opening.{HoldsOn}
use Rattle.pfx_log_store.proofs.Opened.{left_of_file, map_ok}
use Rattle.pfx_log_store.proofs.Staying.{holds_more, holds_still, map_err, match_of}
use Rattle.pfx_log_store.specs.Joining.{IsOfFile}
use Rattle.pfx_log_store.proofs.opening.catch_up.Goals as goal

pub returns-in-Ok-clause-logged : goal.returns-in-Ok-clause-logged
returns-in-Ok-clause-logged g c bytes opened start all held is_open go =
    let number : c.number-last.result ≡ c.args.store.state.number = c.number-last.ensures.number ∙ ap (λ u. u.number) c.state.ensures in
    let first = c.args.log.place.last + 1 in
    let then_open = subst (λ n. IsOpen (with_block held (block_of (c.args.log.place.last + 1) n c.args.frames.now)) c.append.new.self) number (c.in-Ok.ensures.appends held is_open).opened in
    map_ok _ _ c.begin.result (λ beside logged. (with_block held (block_of (c.args.log.place.last + 1) c.args.store.state.number c.args.frames.now), logged))
    (c.begin.ensures.logged start all (with_block held (block_of (c.args.log.place.last + 1) c.args.store.state.number c.args.frames.now))
    (can_catch_up g.J.Job.kind g.met.J.Job.laws g.D.Disk.view start all held bytes c.args.store c.args.log c.args.frames.now opened go is_open first c.append.new.self then_open))

pub returns-then-kept-last-clause-log : goal.returns-then-kept-last-clause-log
returns-then-kept-last-clause-log g c held is_open = holds_still g.met.L.Disk.only_now held c.args.log c.args.log is_open (with_block held (block_of (c.args.log.place.last + 1) c.args.store.state.number c.args.frames.now)) refl

pub returns-in-Ok-clause-disk : goal.returns-in-Ok-clause-disk
returns-in-Ok-clause-disk g c = map_err _ _ c.begin.result c.begin.ensures.back (λ e same. same.0)

pub returns-in-Ok-clause-log : goal.returns-in-Ok-clause-log
returns-in-Ok-clause-log g c held is_open =
    let number : c.number-last.result ≡ c.args.store.state.number = c.number-last.ensures.number ∙ ap (λ u. u.number) c.state.ensures in
    let leaves = subst (λ n. Leaves (Grows held (block_of (c.args.log.place.last + 1) n c.args.frames.now)) (g.L.Disk.view c.args.log.disk) (g.L.Disk.view c.append.new.self.disk)) number (c.in-Ok.ensures.appends held is_open).leaves in
    let grown = holds_more g.met.L.Disk.only_now held c.args.log c.append.new.self is_open (block_of (c.args.log.place.last + 1) c.args.store.state.number c.args.frames.now) leaves in
    match_of _ _ _ _ c.begin.result c.begin.ensures.log c.begin.ensures.back
    (λ beside same. subst (λ f. HoldsOn held (with_block held (block_of (c.args.log.place.last + 1) c.args.store.state.number c.args.frames.now)) (g.L.Disk.view c.args.log.disk) (g.L.Disk.view f.disk)) (sym same) grown)
    (λ e same. subst (λ f. HoldsOn held (with_block held (block_of (c.args.log.place.last + 1) c.args.store.state.number c.args.frames.now)) (g.L.Disk.view c.args.log.disk) (g.L.Disk.view f.disk)) (sym same.1) grown)

pub returns-in-Err-clause-log : goal.returns-in-Err-clause-log
returns-in-Err-clause-log g c held is_open =
    let number : c.number-last.result ≡ c.args.store.state.number = c.number-last.ensures.number ∙ ap (λ u. u.number) c.state.ensures in
    let leaves = subst (λ n. Leaves (Grows held (block_of (c.args.log.place.last + 1) n c.args.frames.now)) (g.L.Disk.view c.args.log.disk) (g.L.Disk.view c.append.new.self.disk)) number (c.in-Err.ensures.appends held is_open).leaves in
    let grown = holds_more g.met.L.Disk.only_now held c.args.log c.append.new.self is_open (block_of (c.args.log.place.last + 1) c.args.store.state.number c.args.frames.now) leaves in
    grown

pub returns-in-Ok-clause-left : goal.returns-in-Ok-clause-left
returns-in-Ok-clause-left g c = map_err _ _ c.begin.result c.begin.ensures.fault (λ e same. left_of_file c.args.log e.2 e.0 (subst (λ f. IsOfFile f) (sym same) tt))
