use Rattle.pfx_events.proofs.Tying.{stays_tied, tied_anew}
use Rattle.pfx_events.proofs.tied.meanwhile.Goals as goal

pub returns-clause-stays : goal.returns-clause-stays
returns-clause-stays g c B w events aside can tied = stays_tied g.J.Job.kind g.met.J.Job.laws B g.D.Disk.view w c.args.store.now tied events aside can

pub returns-clause-anew : goal.returns-clause-anew
returns-clause-anew g c B w whole tied = tied_anew g.J.Job.kind g.met.J.Job.laws B g.D.Disk.view w c.args.store.now tied whole
