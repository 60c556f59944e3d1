use Rattle.std.proofs.Common.{◌∙◌, ap, map, sym, subst}
use Rattle.std.specs.Prelude.{All, IsTrue, vec_capacity}
use Rattle.pfx_record.specs.Batches.{batch_fits, batch_of}
use Rattle.pfx_record.specs.Records.{plain}
use Rattle.pfx_record_redo.specs.Applying.{applied, is_common}
use Rattle.pfx_record_redo.proofs.Commons.{unmapped}
use Rattle.pfx_weights.specs.Sets.{FilledSet}
use Rattle.pfx_store.specs.Working.{IsComing, IsNext, IsRenewal, LeadsOn}
use Rattle.pfx_store.proofs.Appends.{accepted_new, batch_common, common_leads, new_leads, number_new}
use Rattle.pfx_store.proofs.Behinds.{taken_by}
use Rattle.pfx_store.proofs.appending.take_over.Goals as goal

pub apply_all-taken-requires : goal.apply_all-taken-requires
apply_all-taken-requires g c =
    let K = g.J.Job.kind in
    let batch = c.args.batch.now in
    let next : IsNext K c.args.state.now batch.workers batch.real batch.first (map plain batch.records.items) =
    subst (λ r. IsComing K c.args.state.now batch.workers batch.real batch.first (map plain batch.records.items) r) c.in-None.is c.requires.next in
    let fits = subst (λ r. IsTrue (batch_fits batch.workers r (batch_of batch.first batch.records.items))) next.real batch.fits in
    let common = batch_common batch.workers (batch_of batch.first batch.records.items) fits in
    record { common = unmapped c.deref.result.now (subst (λ l. All (λ done. IsTrue (is_common done)) (map plain l)) (sym c.deref.ensures.value) common) }

pub returns-in-None : goal.returns-in-None
returns-in-None g c =
    let K = g.J.Job.kind in
    let batch = c.args.batch.now in
    let records = map plain batch.records.items in
    let next : IsNext K c.args.state.now batch.workers batch.real batch.first records =
    subst (λ r. IsComing K c.args.state.now batch.workers batch.real batch.first records r) c.in-None.is c.requires.next in
    let right = ap (λ l. applied K c.args.state.now (map plain l)) c.deref.ensures.value ∙ next.right.1 in
    let taken = taken_by c.apply_all-taken.result _ _ _ c.apply_all-taken.ensures.taken c.apply_all-taken.ensures.wrong right in
    let fits = subst (λ r. IsTrue (batch_fits batch.workers r (batch_of batch.first batch.records.items))) next.real batch.fits in
    common_leads K c.args.state.now c.apply_all-taken.new.state records _ (batch_common batch.workers (batch_of batch.first batch.records.items) fits)
    (ap (λ l. applied K c.args.state.now (map plain l)) (sym c.deref.ensures.value) ∙ taken) c.requires.fits c.requires.room

pub renew-requires : goal.renew-requires
renew-requires g c =
    let K = g.J.Job.kind in
    let s = c.args.state.now in
    let batch = c.args.batch.now in
    let next : IsRenewal K s batch.workers batch.real batch.first (map plain batch.records.items) c.in-Some.renewal =
    subst (λ r. IsComing K s batch.workers batch.real batch.first (map plain batch.records.items) r) c.in-Some.is c.requires.next in
    let (m, weights, is, same) = next.renews in
    let led = sym (ap (applied K s) is) ∙ next.right.1 in
    record {
      number = number_new K s m weights next.right.0 led;
      real = ap (λ (set : FilledSet). set.real) same ∙ (accepted_new K s m weights next.right.0 led).real;
    }

pub returns-in-Some : goal.returns-in-Some
returns-in-Some g c =
    let K = g.J.Job.kind in
    let s = c.args.state.now in
    let batch = c.args.batch.now in
    let records = map plain batch.records.items in
    let next : IsRenewal K s batch.workers batch.real batch.first records c.in-Some.renewal =
    subst (λ r. IsComing K s batch.workers batch.real batch.first records r) c.in-Some.is c.requires.next in
    let (m, weights, is, same) = next.renews in
    subst (λ t. LeadsOn K s records t (vec_capacity c.renew.new.frame)) (sym c.renew.ensures.state)
    (new_leads K s next.right.0 records c.in-Some.renewal m weights _ is same next.right.1 c.renew.ensures.room)
