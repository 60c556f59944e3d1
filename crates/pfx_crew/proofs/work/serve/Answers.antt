use Rattle.std.proofs.Common.{◌∙◌, ◌++◌, ◌∷◌, [], ap}
use Rattle.pfx_machine.specs.Slots.{deal}
use Rattle.pfx_crew.proofs.Works.{served, unserved}
use Rattle.pfx_crew.proofs.work.serve.Goals as goal

pub returns-in-Ok-clause-serves : goal.returns-in-Ok-clause-serves
returns-in-Ok-clause-serves g c =
    let r = c.run.ensures in
    let n = c.in-Some.ensures in
    served _ _ _ _ _ _ c.in-Some.quantum c.run.result
    (c.in-Ok.ensures.same.1 ∙ n.some)
    (c.in-Ok.ensures.handed ∙ ap (λ l. l ++ c.run.result ∷ []) n.same.1)
    (λ i. deal (r.number i) (r.slot i) (r.task i) (r.before i))

pub returns-in-Err-clause-serves : goal.returns-in-Err-clause-serves
returns-in-Err-clause-serves g c =
    let n = c.in-Some.ensures in
    unserved _ _ _ _ _ _ c.in-Some.quantum (c.in-Err.ensures.same.1 ∙ n.some) (c.in-Err.ensures.handed.1 ∙ n.same.1)
