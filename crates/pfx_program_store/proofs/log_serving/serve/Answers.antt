use Rattle.std.proofs.Common.{◌≡◌, ◌∙◌, ap, false}
use Rattle.pfx_front.proofs.Telling.{noted_fresh}
use Rattle.pfx_program_store.proofs.ServingLemmas.{told_run}
use Rattle.pfx_kinds.specs.AnyKind.{any_kind}
use Rattle.pfx_log_store.proofs.Keepings.{log_whole, none_failed}
use Rattle.pfx_program_store.proofs.log_serving.serve.Goals as goal

pub serve_kept-ran-requires-clause-fresh : goal.serve_kept-ran-requires-clause-fresh
serve_kept-ran-requires-clause-fresh g c = λ lifetimes outlive.
    noted_fresh g.B.Charted.held g.B.Charted.image g.B.Charted.clock g.B.Charted.failures any_kind g.B.Named.start c.args.beside.store
    (g.D.Disk.view c.args.beside.store.file.disk) c.noted-noted.result.store c.requires.begins c.noted-noted.ensures.store
    c.is_broken-broken.ensures.recovered

pub serve_kept-ran-requires-clause-goes_on : goal.serve_kept-ran-requires-clause-goes_on
serve_kept-ran-requires-clause-goes_on g c = λ lifetimes outlive.
    let beside = c.args.beside in
    let noted = c.noted-noted.result in
    let whole : noted.store.file.broken ≡ false = ap (λ s. s.file.broken) c.noted-noted.ensures.store in
    let before = log_whole beside.store.file.broken beside.log.broken beside.stopped c.requires.whole in
    none_failed noted.store.file.broken noted.log.broken noted.stopped whole (ap (λ f. f.broken) c.noted-noted.ensures.log.0 ∙ before.0)
    (c.noted-noted.ensures.log.2 ∙ before.1)

pub returns : goal.returns
returns g c =
    let d = c.serve_kept-ran.result.keeper.store.file.disk in
    told_run g.B.Charted.held g.B.Charted.image g.B.Charted.clock g.B.Charted.failures d.made d.late d.failed
    (g.D.Disk.view c.told.result.store.file.disk) c.told.ensures.along c.args.run.form c.args.run.at_refusal g.B.Named.start c.args.script.now
    c.serve_kept-ran.new.script.failed (g.W.Write.contents c.args.output.now) (g.W.Write.contents c.serve_kept-ran.new.output)
    c.serve_kept-ran.result.result c.serve_kept-ran.ensures
