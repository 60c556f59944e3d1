use Rattle.std.proofs.Math.Logic.{∥∥₁_map}
use Rattle.pfx_front.specs.Lasting.{IsLasting}
use Rattle.pfx_front.proofs.durable.Durable.word.Goals as goal

pub returns-clause-accepted : goal.returns-clause-accepted
returns-clause-accepted g c =
    let d = c.args.self.now in
    ∥∥₁_map d.lasting
    (λ (l : IsLasting g.J.Job.kind g.B.Named.start g.B.Charted.image g.B.Charted.clock g.B.Charted.held d.marks d.moment d.word). (l.entries, l.legal, l.published))
