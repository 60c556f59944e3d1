use Rattle.std.proofs.Common.{◌≡◌, map, rules, subst}
use Rattle.pfx_store.specs.Groups.{AreRecordsOf}
use Rattle.pfx_record.specs.Records.{plain}
use Rattle.pfx_trial_store.proofs.batches.append_slots.Goals as goal

pub batch_of-batch-requires-clause-right : goal.batch_of-batch-requires-clause-right
batch_of-batch-requires-clause-right g c =
    let r = c.in_ok-records.ensures.records in
    let same : c.deref_mut.result.now ≡ c.state-2.result.now = search rules in
    (r.0, subst (λ (s : _). AreRecordsOf g.J.Job.kind s r.0 (map plain c.in_ok-records.records.items)) same r.1)
