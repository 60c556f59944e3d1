use Rattle.std.proofs.Common.{◌≡◌, ◌+◌, ◌++◌, ◌∷◌, [], map, sym, ◌∙◌, ap}
use Rattle.std.specs.Prelude.{Some}
use Rattle.pfx_record_redo.specs.Applying.{applied}
use Rattle.pfx_machine.specs.Plain.{Plain}
use Rattle.pfx_record.specs.Batches.{batch_bytes, batch_of}
use Rattle.pfx_record.specs.Records.{plain}
use Rattle.pfx_store_image.proofs.Answers.{some_same}
use Rattle.pfx_weights.specs.Sets.{FilledSet}
use Rattle.pfx_trial_store.proofs.Slots.{set_stays}
use Rattle.pfx_trial_store.proofs.client.ten_calls.Goals as goal

pub returns-clause-marked : goal.returns-clause-marked
returns-clause-marked g c = λ honest start all noted covers.
    (let K = g.J.Job.kind in
    let one = all ++ batch_bytes K (batch_of c.args.first.now.first c.args.first.now.records.items) ∷ [] in
    let both = one ++ batch_bytes K (batch_of c.args.second.now.first c.args.second.now.records.items) ∷ [] in
    let marks = c.in_ok-one.one ∷ noted in
    let more = c.in_ok-two.two ∷ marks in
    let h1 = c.append.ensures.call.honest.0 honest in
    let h2 = c.turn-turned.ensures.call.honest.0 h1 in
    let h3 = c.tend-closed.ensures.call.honest.0 h2 in
    let h4 = c.tend-piece.ensures.call.honest.0 h3 in
    let h5 = c.tend-finished.ensures.call.honest.0 h4 in
    let h6 = c.append-2.ensures.call.honest.0 h5 in
    let h7 = c.turn-again.ensures.call.honest.0 h6 in
    let h8 = c.tend-step.ensures.call.honest.0 h7 in
    let h9 = c.tend-other.ensures.call.honest.0 h8 in
    let m1 = c.in_ok-one.ensures.marks honest start all noted covers in
    let m2 = c.turn-turned.ensures.marks h1 start one marks m1 in
    let m3 = c.tend-closed.ensures.marks h2 start one marks m2 in
    let m4 = c.tend-piece.ensures.marks h3 start one marks m3 in
    let m5 = c.tend-finished.ensures.marks h4 start one marks m4 in
    let m6 = c.in_ok-two.ensures.marks h5 start one marks m5 in
    let m7 = c.turn-again.ensures.marks h6 start both more m6 in
    let m8 = c.tend-step.ensures.marks h7 start both more m7 in
    let m9 = c.tend-other.ensures.marks h8 start both more m8 in
    c.tend-last.ensures.marks h9 start both more m9)

pub append-requires-2 : goal.append-requires-2
append-requires-2 g c =
    let K = g.J.Job.kind in
    let r = c.requires.right in
    let t = c.append.new.self.state in
    let led : applied K c.args.store.now.state (map plain c.args.first.now.records.items) ≡ Some t = c.in_ok-one.ensures.state.moved in
    let at : r.0 ≡ t = some_same r.0 t (sym r.1 ∙ led) in
    let same : c.tend-finished.new.self.state ≡ t = c.tend-finished.ensures.state ∙ (c.tend-piece.ensures.state ∙ (c.tend-closed.ensures.state ∙ c.turn-turned.ensures.state)) in
    let batch = c.args.first.now in
    let set = set_stays K c.args.store.now.state t batch.workers batch.real batch.first batch.records.items batch.fits c.requires.real.0 led in
    record {
      next = record {
        workers = c.requires.workers.1 ∙ sym (ap (λ (s : Plain g.row.J.Denot). s.ledger.set.workers) same ∙ ap (λ (set : FilledSet). set.workers) set);
        real = c.requires.real.1;
        first = r.2 ∙ ap (λ (s : Plain g.row.J.Denot). s.number + 1) (at ∙ sym same);
        right = (r.3, ap (λ s. applied K s (map plain c.args.second.now.records.items)) (same ∙ sym at) ∙ r.4);
      };
    }
