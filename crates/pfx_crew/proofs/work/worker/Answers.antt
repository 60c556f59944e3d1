use Rattle.std.proofs.Common.{refl, ◌∙◌}
use Rattle.pfx_crew.proofs.Works.{none_served, one_more, stops}
use Rattle.pfx_crew.proofs.work.worker.Goals as goal

pub loop-init : goal.loop-init
loop-init g c = (none_served _ _, refl, refl)

pub loop-preserved : goal.loop-preserved
loop-preserved g c =
    let i = c.loop.invariant in
    let s = c.serve.ensures in
    (one_more _ _ _ _ _ _ _ c.if-not-serve.false i.0 s.serves, s.same.0 ∙ i.1, s.same.1 ∙ i.2)

pub returns-then-not-serve-clause-works : goal.returns-then-not-serve-clause-works
returns-then-not-serve-clause-works g c = stops _ _ _ _ _ _ _ c.if-not-serve.true c.loop.invariant.0 c.serve.ensures.serves

pub returns-then-not-serve-clause-same : goal.returns-then-not-serve-clause-same
returns-then-not-serve-clause-same g c = (c.serve.ensures.same.0 ∙ c.loop.invariant.1, c.serve.ensures.same.1 ∙ c.loop.invariant.2)
