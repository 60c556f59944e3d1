use Rattle.std.proofs.Common.{◌∙◌, ap}
use Rattle.pfx_store.specs.Keepers.{failure_of}
use Rattle.pfx_kinds.specs.AnyKind.{any_kind}
use Rattle.pfx_front.proofs.Telling.{noted_fresh}
use Rattle.pfx_program_store.proofs.ServingLemmas.{told_run}
use Rattle.pfx_program_store.proofs.serving.serve.Goals as goal

pub serve_kept-ran-requires-clause-fresh : goal.serve_kept-ran-requires-clause-fresh
serve_kept-ran-requires-clause-fresh g c = λ lifetimes outlive.
    noted_fresh g.B.Charted.held g.B.Charted.image g.B.Charted.clock g.B.Charted.failures any_kind g.B.Named.start c.args.store (g.D.Disk.view c.args.store.file.disk)
    c.noted-noted.result c.requires.begins c.noted-noted.ensures c.is_broken-broken.ensures.recovered

pub serve_kept-ran-requires-clause-goes_on : goal.serve_kept-ran-requires-clause-goes_on
serve_kept-ran-requires-clause-goes_on g c = λ lifetimes outlive. ap failure_of c.noted-noted.ensures

pub returns : goal.returns
returns g c =
    let d = c.serve_kept-ran.result.keeper.file.disk in
    told_run g.B.Charted.held g.B.Charted.image g.B.Charted.clock g.B.Charted.failures d.made d.late d.failed (g.D.Disk.view c.told.result.file.disk) c.told.ensures.along
    c.args.run.form c.args.run.at_refusal g.B.Named.start c.args.script.now c.serve_kept-ran.new.script.failed (g.W.Write.contents c.args.output.now)
    (g.W.Write.contents c.serve_kept-ran.new.output) c.serve_kept-ran.result.result c.serve_kept-ran.ensures
