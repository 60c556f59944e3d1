use Rattle.std.proofs.Common.{◌≡◌, ◌+◌, ◌∷◌, [], map, sym, ◌∙◌, ap, subst}
use Rattle.pfx_machine.specs.Plain.{Plain, IsState}
use Rattle.pfx_machine.specs.Reweighing.{new_set}
use Rattle.pfx_machine.specs.declared.command.Command.TheVariants.{Reweigh}
use Rattle.pfx_record.specs.Records.{plain}
use Rattle.pfx_store.specs.Groups.{AreKeptAs}
use Rattle.pfx_store.specs.Working.{IsRenewal}
use Rattle.pfx_weights.specs.Sets.{FilledSet}
use Rattle.pfx_store_engine.specs.Renewing.{IsKeepable}
use Rattle.pfx_store_engine.proofs.Keeps.{put_as}
use Rattle.pfx_store_engine.proofs.keeping.put.Goals as goal

pub keep_reweigh-requires : goal.keep_reweigh-requires
keep_reweigh-requires g c =
    let s = (g.K.BatchKeeper.kept c.args.keeper.now).state in
    let batch = c.reweigh_of-batch.result in
    let records = map plain c.args.records.items in
    let (m, weights, are, new) = subst (λ r. IsKeepable g.J.Job.kind s records r) c.in-Some.is c.requires.right in
    let read : c.state-in-Some.result.now ≡ s = c.state-in-Some.ensures ∙ ap (λ k. k.state) c.stored-in-Some.ensures in
    let there = subst (λ (t : Plain g.row.J.Denot). AreKeptAs g.J.Job.kind t (Reweigh m weights ∷ []) records) (sym read) are in
    let next = subst (λ (t : Plain g.row.J.Denot). IsRenewal g.J.Job.kind t batch.workers batch.real batch.first (map plain batch.records.items) (new_set t.ledger.set m weights)) read (c.reweigh_of-batch.ensures.next m weights there) in
    record { next = subst (λ (set : FilledSet). IsRenewal g.J.Job.kind s batch.workers batch.real batch.first (map plain batch.records.items) set) (sym new) next }

pub returns-in-Some-clause-put : goal.returns-in-Some-clause-put
returns-in-Some-clause-put g c G kept =
    let old = g.K.BatchKeeper.kept c.args.keeper.now in
    let batch = c.reweigh_of-batch.result in
    let records = map plain c.args.records.items in
    let (m, weights, are, new) = subst (λ r. IsKeepable g.J.Job.kind old.state records r) c.in-Some.is c.requires.right in
    let read : c.state-in-Some.result.now ≡ old.state = c.state-in-Some.ensures ∙ ap (λ k. k.state) c.stored-in-Some.ensures in
    let there = subst (λ (t : Plain g.row.J.Denot). AreKeptAs g.J.Job.kind t (Reweigh m weights ∷ []) records) (sym read) are in
    let h : IsState old.state = subst (λ (t : Plain g.row.J.Denot). IsState t) read c.reweigh_of-batch.ensures.state in
    let is : AreKeptAs g.J.Job.kind old.state G (map plain batch.records.items) = rw c.reweigh_of-batch.ensures.records kept in
    let next : batch.first ≡ old.state.number + 1 = (c.reweigh_of-batch.ensures.next m weights there).first ∙ ap (λ (t : Plain g.row.J.Denot). t.number + 1) read in
    put_as g.J.Job.kind g.met.J.Job.laws g.D.Disk.view old G _ _ _ c.keep_reweigh.result batch.first (map plain batch.records.items) h is next c.keep_reweigh.ensures

pub returns-in-None-clause-put : goal.returns-in-None-clause-put
returns-in-None-clause-put g c G kept =
    let old = g.K.BatchKeeper.kept c.args.keeper.now in
    let batch = c.batch_of-batch.result in
    let read : c.state.result.now ≡ old.state = c.state.ensures ∙ ap (λ k. k.state) c.stored.ensures in
    let h : IsState old.state = subst (λ (t : Plain g.row.J.Denot). IsState t) read c.batch_of-batch.ensures.state in
    let is : AreKeptAs g.J.Job.kind old.state G (map plain batch.records.items) = rw c.batch_of-batch.ensures.records kept in
    let next : batch.first ≡ old.state.number + 1 = c.batch_of-batch.ensures.next.first ∙ ap (λ (t : Plain g.row.J.Denot). t.number + 1) read in
    put_as g.J.Job.kind g.met.J.Job.laws g.D.Disk.view old G _ _ _ c.keep.result batch.first (map plain batch.records.items) h is next c.keep.ensures
