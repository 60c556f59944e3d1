use Rattle.pfx_store.proofs.Marking.{recovered_now}
use Rattle.pfx_store.proofs.store.Store.is_broken.Goals as goal

pub returns-clause-recovered : goal.returns-clause-recovered
returns-clause-recovered g c = rw (← c.self.view_is) (λ whole honest image here.
    (let j = c.self.inside.journal in
    recovered_now g.J.Job.kind g.met.J.Job.laws j.file.places j.state j.spelled.items (g.D.Disk.view j.file.disk) (c.self.invariant whole honest) image here))
