use Rattle.std.proofs.Common.{◌≡◌, ◌≢◌, ℕ, sym, ◌∙◌, subst, Some, None}
use Rattle.std.proofs.lemmas.Bool.{false≢true}
use Rattle.pfx_machine.specs.Faults.{no_memory}
use Rattle.pfx_machine.specs.Refusals.{refusal}
use Rattle.pfx_machine.specs.declared.command.Command.TheVariants.{Reweigh}
use Rattle.pfx_record_redo.proofs.Renewing.{reweigh_right, reweigh_wrong}
use Rattle.pfx_record_redo.proofs.applying.renew.Goals as goal

pub returns-in-Ok-clause-right : goal.returns-in-Ok-clause-right
returns-in-Ok-clause-right g c =
    let K = g.J.Job.kind in
    let accepted = subst (λ (m : ℕ). refusal K c.args.state.now (Reweigh m c.args.weights.now) ≡ None) c.from.ensures c.in-Ok.ensures.exact in
    sym (reweigh_right K c.args.state.now c.args.workers c.args.weights.now c.number-number.ensures.state accepted)

pub returns-else-is_memory-clause-right : goal.returns-else-is_memory-clause-right
returns-else-is_memory-clause-right g c =
    let K = g.J.Job.kind in
    let other : c.in-Err.fault ≢ no_memory = λ is. false≢true (sym c.if-is_memory.false ∙ c.is_memory.ensures.1 is) in
    let refused = subst (λ (m : ℕ). refusal K c.args.state.now (Reweigh m c.args.weights.now) ≡ Some c.in-Err.fault) c.from.ensures (c.in-Err.ensures.exact.1 other) in
    reweigh_wrong K c.args.state.now c.args.workers c.args.weights.now c.in-Err.fault refused
