use Rattle.std.proofs.Common.{rules, ◌≡◌, ◌+◌, map, sym, ◌∙◌, ap, subst}
use Rattle.std.specs.Prelude.{Some}
use Rattle.pfx_record_redo.specs.Applying.{applied}
use Rattle.pfx_store.specs.Groups.{AreRecordsOf}
use Rattle.pfx_machine.specs.Outcome.{outcome}
use Rattle.pfx_machine.specs.Plain.{Plain}
use Rattle.pfx_record.specs.Records.{plain}
use Rattle.pfx_weights.specs.Sets.{FilledSet}
use Rattle.pfx_trial_store.proofs.Slots.{set_stays}
use Rattle.pfx_trial_store.proofs.batches.append_both.Goals as goal

pub batch_of-two-requires-clause-right : goal.batch_of-two-requires-clause-right
batch_of-two-requires-clause-right g c =
    let q = c.in_ok-slots-2.ensures.records in
    let same : c.deref_mut-2.result.now ≡ c.deref-2.result.now = search rules in
    (q.0, subst (λ (t : Plain g.row.J.Denot). AreRecordsOf g.J.Job.kind t q.0 (map plain c.in_ok-slots-2.field-0.items)) same q.1)

pub ten_calls-requires-clause-right : goal.ten_calls-requires-clause-right
ten_calls-requires-clause-right g c =
    let K = g.J.Job.kind in
    let r = c.in_ok-slots.ensures.records in
    let same : c.deref_mut.result.now ≡ c.state-2.result.now = search rules in
    let middle : c.deref-2.result.now ≡ c.slots.new.state = search rules in
    let are = subst (λ (t : Plain g.row.J.Denot). AreRecordsOf K t r.0 (map plain c.in_ok-slots.field-0.items)) same r.1 in
    let led = ap (λ t. applied K t (map plain c.batch_of-one.result.records.items)) (sym c.state-2.ensures)
    ∙ (c.batch_of-one.ensures.leads r.0 are ∙ (ap (λ t. Some (outcome K t r.0)) (sym same) ∙ ap Some (sym r.2))) in
    let right = c.batch_of-two.ensures.next.right in (
      c.slots.new.state,
      led,
      c.batch_of-two.ensures.next.first ∙ ap (λ (t : Plain g.row.J.Denot). t.number + 1) middle,
      right.0,
      ap (λ t. applied K t (map plain c.batch_of-two.result.records.items)) (sym middle) ∙ right.1,
    )

pub ten_calls-requires-clause-workers : goal.ten_calls-requires-clause-workers
unfolding ten_calls-requires-clause-right
ten_calls-requires-clause-workers g c =
    let led = (ten_calls-requires-clause-right g c).1 in
    let batch = c.batch_of-one.result in
    let middle : c.deref-2.result.now ≡ c.slots.new.state = search rules in
    let set = set_stays g.J.Job.kind c.args.store.now.state c.slots.new.state batch.workers batch.real batch.first batch.records.items batch.fits c.batch_of-one.ensures.next.real led in (
      c.batch_of-one.ensures.next.workers ∙ ap (λ (t : Plain g.row.J.Denot). t.ledger.set.workers) c.state-2.ensures,
      c.batch_of-two.ensures.next.workers ∙ (ap (λ (t : Plain g.row.J.Denot). t.ledger.set.workers) middle ∙ ap (λ (l : FilledSet). l.workers) set),
    )

pub ten_calls-requires-clause-real : goal.ten_calls-requires-clause-real
ten_calls-requires-clause-real g c = (c.batch_of-one.ensures.next.real, c.batch_of-two.ensures.next.real)
