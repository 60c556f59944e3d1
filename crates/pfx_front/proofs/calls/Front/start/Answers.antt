use Rattle.std.proofs.Common.{◌∙◌, ap}
use Rattle.pfx_store.specs.Keepers.{failure_of}
use Rattle.pfx_front.proofs.Telling.{noted_fresh, told_back}
use Rattle.pfx_front.proofs.calls.Front.start.Goals as goal

pub start_kept-requires-clause-fresh : goal.start_kept-requires-clause-fresh
start_kept-requires-clause-fresh g c = λ lifetimes outlive.
    noted_fresh g.B.Charted.held g.B.Charted.image g.B.Charted.clock g.B.Charted.failures g.J.Job.kind g.B.Named.start c.args.store (g.D.Disk.view c.args.store.file.disk)
    c.noted-noted.result c.requires.begins c.noted-noted.ensures c.is_broken-broken.ensures.recovered

pub returns-in-Err-clause-given_back : goal.returns-in-Err-clause-given_back
returns-in-Err-clause-given_back g c =
    told_back c.args.store c.told.result c.in-Err.back c.requires.begins.whole (c.in-Err.ensures.given_back ∙ c.noted-noted.ensures)
    c.told.ensures.disk c.told.ensures.broken c.told.ensures.places c.told.ensures.state

pub start_kept-requires-clause-goes_on : goal.start_kept-requires-clause-goes_on
start_kept-requires-clause-goes_on g c = λ lifetimes outlive. ap failure_of c.noted-noted.ensures
