use Rattle.std.proofs.Common.{◌≢◌, ◌∙◌, sym, eq-eqb, slice_index}
use Rattle.std.proofs.lemmas.Bool.{eqb-true, false≢true}
use Rattle.pfx_store_format.proofs.Taking.{on_ok}
use Rattle.pfx_store_version_one.proofs.Leading.{leads_alike, leads_nowhere}
use Rattle.pfx_store_version_one.proofs.frames.apply_frame.Goals as goal

pub returns-then-has_weights-clause-wrong : goal.returns-then-has_weights-clause-wrong
returns-then-has_weights-clause-wrong g c wrong =
    leads_nowhere g.J.Job.kind g.met.J.Job.laws c.args.state.now c.args.frame.now (eqb-true (slice_index c.args.frame.now 15) 4 (sym c.has_weights.ensures ∙ c.if-has_weights.true))

pub returns-clause-taken : goal.returns-clause-taken
returns-clause-taken g c =
    let other : slice_index c.args.frame.now 15 ≢ 4 = λ is. false≢true (sym (sym c.has_weights.ensures ∙ c.if-has_weights.false) ∙ eq-eqb (slice_index c.args.frame.now 15) 4 is) in
    on_ok c.apply_frame.result c.apply_frame.ensures.taken (λ right led is. leads_alike g.J.Job.kind g.met.J.Job.laws c.args.state.now c.args.frame.now other ∙ led is)

pub returns-clause-wrong : goal.returns-clause-wrong
returns-clause-wrong g c =
    let other : slice_index c.args.frame.now 15 ≢ 4 = λ is. false≢true (sym (sym c.has_weights.ensures ∙ c.if-has_weights.false) ∙ eq-eqb (slice_index c.args.frame.now 15) 4 is) in
    on_ok c.apply_frame.result c.apply_frame.ensures.wrong (λ right led is. leads_alike g.J.Job.kind g.met.J.Job.laws c.args.state.now c.args.frame.now other ∙ led is)
