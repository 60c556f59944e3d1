use Rattle.std.proofs.Common.{sym, subst}
use Rattle.pfx_front.specs.Closing.{AreSeen}
use Rattle.pfx_front.proofs.calls.Front.close.Goals as goal

pub returns-in-Some-clause-readers : goal.returns-in-Some-clause-readers
returns-in-Some-clause-readers g c =
    let left = c.in-Ok.left in
    subst (λ s. AreSeen g.J.Job.kind g.B.Named.start left.book s c.args.given.readers.items left.given.readers.items left.looked.items)
    (sym c.in-Some.ensures.state) c.in-Ok.ensures.readers
