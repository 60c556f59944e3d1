use Rattle.std.proofs.Common.{◌≡◌, ◌≤◌, ◌+◌, sym, ◌∙◌, ap, ap₂, subst}
use Rattle.std.specs.Prelude.{vec_capacity}
use Rattle.pfx_columns.specs.Ledgers.{Ledger}
use Rattle.pfx_machine.specs.Reweighing.{new_set, reweigh_fault}
use Rattle.pfx_machine.proofs.Keeping.{below_limit}
use Rattle.pfx_machine.proofs.Reweighs.{accepted_set, workers_of}
use Rattle.pfx_record.specs.Batches.{batch_most}
use Rattle.pfx_weights.specs.Sets.{FilledSet}
use Rattle.pfx_store.proofs.renewal.prepared.Goals as goal

pub invariant_of-result : goal.invariant_of-result
invariant_of-result g c =
    let s = c.args.state.now in
    let m = c.args.workers in
    let weights = c.args.weights.now in
    let epoch = c.in_ok-epoch.epoch in
    let accepted = below_limit s.number (reweigh_fault s m weights) c.in_ok-epoch.ensures.exact in
    let new = accepted_set s m weights accepted.1 in
    let workers : epoch.workers ≡ m = ap (λ (set : FilledSet). set.workers) c.in_ok-epoch.ensures.set ∙ workers_of m weights (new_set s.ledger.set m weights) new.accepts in
    let real : epoch.real ≡ c.real-real.result = c.in_ok-epoch.ensures.real ∙ sym (c.real-real.ensures ∙ ap (λ (l : Ledger). l.set.real) c.columns-2.ensures) in
    subst (λ n. n ≤ vec_capacity c.in-Ok.frame) (c.longest_frame.ensures ∙ sym (ap₂ (λ w r. batch_most w r + 1) workers real)) c.in-Ok.ensures.capacity
