use Rattle.std.proofs.Common.{◌≡◌, ◌+◌, refl, [], ◌∷◌, map, Ok, Err, None, Some, sym, ◌∙◌, ap, subst}
use Rattle.std.proofs.lemmas.Bool.{true≢false}
use Rattle.pfx_record_redo.specs.Recording.{record_of}
use Rattle.pfx_machine.specs.Outcome.{outcome}
use Rattle.pfx_machine.specs.Plain.{Plain}
use Rattle.pfx_machine.specs.declared.command.Command.{Command}
use Rattle.pfx_machine.specs.Refusals.{refusal}
use Rattle.pfx_machine.proofs.Compose.{outcome-none}
use Rattle.pfx_record.specs.Records.{plain}
use Rattle.pfx_store.specs.Groups.{AreKeptAs}
use Rattle.pfx_store_engine.proofs.Commands.{keepable_one, one_kept}
use Rattle.pfx_store_engine.specs.Failing.{IsInDoubt}
use Rattle.pfx_store_engine.specs.Renewing.{IsRenewalFor}
use Rattle.pfx_store_engine.specs.declared.engine.EngineFault.TheVariants.{Failed}
use Rattle.pfx_store_engine.proofs.Keeps.{keeps_more, worked}
use Rattle.pfx_store_engine.specs.Stepping.{command_calls, frame_len}
use Rattle.pfx_store_engine.proofs.Serving.{endless_after, limits_refuse}
use Rattle.pfx_store_engine.proofs.Stepping.{takes_as, takes_no_call}
use Rattle.pfx_segment.specs.Segment.{Takes}
use Rattle.std.specs.Prelude.{IsOk}
use Rattle.pfx_store_engine.specs.Failing.{stopped_at}
use Rattle.pfx_store_engine.proofs.Promising.{stops_failed, stops_failing, stops_ok}
use Rattle.pfx_store_engine.proofs.durable.DurableEngine.execute.Goals as goal

pub returns-in-Some-clause-commits : goal.returns-in-Some-clause-commits
returns-in-Some-clause-commits g c =
    let kept = g.K.BatchKeeper.kept in
    λ honest. record { keeps = λ start H h all at. keeps_more g.J.Job.kind start H (c.args.command ∷ []) (g.D.Disk.view (kept c.args.self.now.keeper).file.disk); acknowledged = tt }

pub returns-in_default-with_capacity-clause-commits : goal.returns-in_default-with_capacity-clause-commits
returns-in_default-with_capacity-clause-commits g c =
    let kept = g.K.BatchKeeper.kept in
    λ honest. record { keeps = λ start H h all at. keeps_more g.J.Job.kind start H (c.args.command ∷ []) (g.D.Disk.view (kept c.args.self.now.keeper).file.disk); acknowledged = tt }

pub returns-in-Err-clause-commits : goal.returns-in-Err-clause-commits
returns-in-Err-clause-commits g c =
    let kept = g.K.BatchKeeper.kept in
    λ honest. record { keeps = λ start H h all at. keeps_more g.J.Job.kind start H (c.args.command ∷ []) (g.D.Disk.view (kept c.args.self.now.keeper).file.disk); acknowledged = tt }

pub returns-in-Err-2-clause-commits : goal.returns-in-Err-2-clause-commits
returns-in-Err-2-clause-commits g c =
    let kept = g.K.BatchKeeper.kept in
    λ honest. record { keeps = λ start H h all at. keeps_more g.J.Job.kind start H (c.args.command ∷ []) (g.D.Disk.view (kept c.args.self.now.keeper).file.disk); acknowledged = tt }

pub invariant_of-self-in-Ok-run_prepared : goal.invariant_of-self-in-Ok-run_prepared
invariant_of-self-in-Ok-run_prepared g c =
    let kept = g.K.BatchKeeper.kept in
    record {
      same = λ whole.
          let before = sym c.in_default.ensures.answer in
          let at = c.args.self.now.same before in
          let done = c.in-Ok-run_prepared.ensures in
          let mine : AreKeptAs g.J.Job.kind (kept c.args.self.now.keeper).state (c.args.command ∷ []) (map plain c.push_reserved.new.self.items) =
          one_kept g.J.Job.kind (kept c.args.self.now.keeper).state c.args.command (map plain c.push_reserved.new.self.items) (subst (λ (t : Plain g.row.J.Denot). refusal g.J.Job.kind t c.args.command ≡ None) at done.exact)
          (rw (c.push_reserved.ensures.items, c.in-Ok.ensures.items) (ap (λ r. r ∷ []) (done.kept_as ∙ ap (λ (t : Plain g.row.J.Denot). record_of g.J.Job.kind t c.args.command) at))) in
          done.outcome c.args.self.now.state [] (sym (outcome-none g.J.Job.kind c.args.self.now.state))
          ∙ (ap (λ (t : Plain g.row.J.Denot). outcome g.J.Job.kind t (c.args.command ∷ [])) at
          ∙ sym (worked c.commit.result _ c.commit.ensures.call.fails whole (c.commit.ensures.state (c.args.command ∷ []) mine)));
    }

pub returns-in-Ok-commit-clause-commits : goal.returns-in-Ok-commit-clause-commits
returns-in-Ok-commit-clause-commits g c =
    let kept = g.K.BatchKeeper.kept in
    λ honest.
    (let V = g.D.Disk.view in
    let at = c.args.self.now.same (sym c.in_default.ensures.answer) in
    let done = c.in-Ok-run_prepared.ensures in
    let mine : AreKeptAs g.J.Job.kind (kept c.args.self.now.keeper).state (c.args.command ∷ []) (map plain c.push_reserved.new.self.items) =
    one_kept g.J.Job.kind (kept c.args.self.now.keeper).state c.args.command (map plain c.push_reserved.new.self.items) (subst (λ (t : Plain g.row.J.Denot). refusal g.J.Job.kind t c.args.command ≡ None) at done.exact)
    (rw (c.push_reserved.ensures.items, c.in-Ok.ensures.items) (ap (λ r. r ∷ []) (done.kept_as ∙ ap (λ (t : Plain g.row.J.Denot). record_of g.J.Job.kind t c.args.command) at))) in
    let new = kept c.commit.new.keeper in
    record {
      keeps = λ start H h all there. c.commit.ensures.keeps honest start H (c.args.command ∷ []) h all there mine;
      acknowledged = λ image here. c.in-Ok-commit.ensures.acknowledged honest image (subst (λ n. (V new.file.disk).since n image) c.in-Ok-commit.ensures.call.mark.1 here)
          ∙ ap Ok (c.in-Ok-commit.ensures.state (c.args.command ∷ []) mine ∙ ap (λ (t : Plain g.row.J.Denot). outcome g.J.Job.kind t (c.args.command ∷ [])) (sym at) ∙ sym (done.outcome c.args.self.now.state [] (sym (outcome-none g.J.Job.kind c.args.self.now.state))));
    })

pub returns-clause-commits : goal.returns-clause-commits
returns-clause-commits g c =
    let kept = g.K.BatchKeeper.kept in
    λ honest.
    (let at = c.args.self.now.same (sym c.in_default.ensures.answer) in
    let done = c.in-Ok-run_prepared.ensures in
    let mine : AreKeptAs g.J.Job.kind (kept c.args.self.now.keeper).state (c.args.command ∷ []) (map plain c.push_reserved.new.self.items) =
    one_kept g.J.Job.kind (kept c.args.self.now.keeper).state c.args.command (map plain c.push_reserved.new.self.items) (subst (λ (t : Plain g.row.J.Denot). refusal g.J.Job.kind t c.args.command ≡ None) at done.exact)
    (rw (c.push_reserved.ensures.items, c.in-Ok.ensures.items) (ap (λ r. r ∷ []) (done.kept_as ∙ ap (λ (t : Plain g.row.J.Denot). record_of g.J.Job.kind t c.args.command) at))) in
    record {
      keeps = λ start H h all there. c.commit.ensures.keeps honest start H (c.args.command ∷ []) h all there mine;
      acknowledged = tt;
    })

pub returns-in-Ok-commit-clause-serves : goal.returns-in-Ok-commit-clause-serves
returns-in-Ok-commit-clause-serves g c = λ endless.
    (let done = c.in-Ok-run_prepared.ensures in
    let s = c.args.self.now.state in
    (tt, endless_after g.J.Job.kind g.met.J.Job.laws s c.run_prepared.new.state c.args.command c.number-number.ensures.state endless done.exact (done.outcome s [] (sym (outcome-none g.J.Job.kind s)))))

pub returns-in-Err-2-clause-serves : goal.returns-in-Err-2-clause-serves
returns-in-Err-2-clause-serves g c = λ endless. (
  λ slot.
      (let s = c.args.self.now.state in
      let refused : refusal g.J.Job.kind s c.args.command ≡ Some c.in-Err.fault = c.in-Err.ensures.exact.1 (λ is. true≢false (sym (c.is_memory.ensures.1 is) ∙ c.if-is_memory.false)) in
      limits_refuse g.J.Job.kind s c.in-Err.fault c.number-number.ensures.state endless (subst (λ (d : Command g.row.J.Denot). refusal g.J.Job.kind s d ≡ Some c.in-Err.fault) slot refused)),
  tt,
)

pub returns-in-Some-clause-calls : goal.returns-in-Some-clause-calls
returns-in-Some-clause-calls g c =
    let kept = g.K.BatchKeeper.kept in
    record { takes = takes_no_call (command_calls (frame_len g.J.Job.kind c.args.self.now.state (c.args.command ∷ [])) (kept c.args.self.now.keeper).file.places) (g.D.Disk.view (kept c.args.self.now.keeper).file.disk) _; honest = (λ h. h, λ h. h) }

pub returns-in_default-with_capacity-clause-calls : goal.returns-in_default-with_capacity-clause-calls
returns-in_default-with_capacity-clause-calls g c =
    let kept = g.K.BatchKeeper.kept in
    record { takes = takes_no_call (command_calls (frame_len g.J.Job.kind c.args.self.now.state (c.args.command ∷ [])) (kept c.args.self.now.keeper).file.places) (g.D.Disk.view (kept c.args.self.now.keeper).file.disk) _; honest = (λ h. h, λ h. h) }

pub returns-in-Err-clause-calls : goal.returns-in-Err-clause-calls
returns-in-Err-clause-calls g c =
    let kept = g.K.BatchKeeper.kept in
    record { takes = takes_no_call (command_calls (frame_len g.J.Job.kind c.args.self.now.state (c.args.command ∷ [])) (kept c.args.self.now.keeper).file.places) (g.D.Disk.view (kept c.args.self.now.keeper).file.disk) _; honest = (λ h. h, λ h. h) }

pub returns-in-Err-2-clause-calls : goal.returns-in-Err-2-clause-calls
returns-in-Err-2-clause-calls g c =
    let kept = g.K.BatchKeeper.kept in
    record { takes = takes_no_call (command_calls (frame_len g.J.Job.kind c.args.self.now.state (c.args.command ∷ [])) (kept c.args.self.now.keeper).file.places) (g.D.Disk.view (kept c.args.self.now.keeper).file.disk) _; honest = (λ h. h, λ h. h) }

pub returns-in-Ok-commit-clause-calls : goal.returns-in-Ok-commit-clause-calls
returns-in-Ok-commit-clause-calls g c =
    let kept = g.K.BatchKeeper.kept in
    let V = g.D.Disk.view in
    let at = c.args.self.now.same (sym c.in_default.ensures.answer) in
    let done = c.in-Ok-run_prepared.ensures in
    let mine : AreKeptAs g.J.Job.kind (kept c.args.self.now.keeper).state (c.args.command ∷ []) (map plain c.push_reserved.new.self.items) =
    one_kept g.J.Job.kind (kept c.args.self.now.keeper).state c.args.command (map plain c.push_reserved.new.self.items) (subst (λ (t : Plain g.row.J.Denot). refusal g.J.Job.kind t c.args.command ≡ None) at done.exact)
    (rw (c.push_reserved.ensures.items, c.in-Ok.ensures.items) (ap (λ r. r ∷ []) (done.kept_as ∙ ap (λ (t : Plain g.row.J.Denot). record_of g.J.Job.kind t c.args.command) at))) in
    record {
      takes = takes_as (command_calls (frame_len g.J.Job.kind c.args.self.now.state (c.args.command ∷ [])) (kept c.args.self.now.keeper).file.places) (V (kept c.args.self.now.keeper).file.disk) (V (kept c.commit.new.keeper).file.disk) c.commit.result _ (λ _. subst (λ r. IsOk r) (sym c.in-Ok-commit.is) refl)
          (subst (λ (t : Plain g.row.J.Denot). Takes (command_calls (frame_len g.J.Job.kind t (c.args.command ∷ [])) (kept c.args.self.now.keeper).file.places) (V (kept c.args.self.now.keeper).file.disk) (V (kept c.commit.new.keeper).file.disk) c.commit.result) (sym at) (c.commit.ensures.calls (c.args.command ∷ []) mine));
      honest = c.commit.ensures.call.follows.honest;
    }

pub returns-clause-calls : goal.returns-clause-calls
returns-clause-calls g c =
    let kept = g.K.BatchKeeper.kept in
    let V = g.D.Disk.view in
    let at = c.args.self.now.same (sym c.in_default.ensures.answer) in
    let done = c.in-Ok-run_prepared.ensures in
    let mine : AreKeptAs g.J.Job.kind (kept c.args.self.now.keeper).state (c.args.command ∷ []) (map plain c.push_reserved.new.self.items) =
    one_kept g.J.Job.kind (kept c.args.self.now.keeper).state c.args.command (map plain c.push_reserved.new.self.items) (subst (λ (t : Plain g.row.J.Denot). refusal g.J.Job.kind t c.args.command ≡ None) at done.exact)
    (rw (c.push_reserved.ensures.items, c.in-Ok.ensures.items) (ap (λ r. r ∷ []) (done.kept_as ∙ ap (λ (t : Plain g.row.J.Denot). record_of g.J.Job.kind t c.args.command) at))) in
    record {
      takes = takes_as (command_calls (frame_len g.J.Job.kind c.args.self.now.state (c.args.command ∷ [])) (kept c.args.self.now.keeper).file.places) (V (kept c.args.self.now.keeper).file.disk) (V (kept c.commit.new.keeper).file.disk) c.commit.result _ (λ is. absurd (true≢false (sym is)))
          (subst (λ (t : Plain g.row.J.Denot). Takes (command_calls (frame_len g.J.Job.kind t (c.args.command ∷ [])) (kept c.args.self.now.keeper).file.places) (V (kept c.args.self.now.keeper).file.disk) (V (kept c.commit.new.keeper).file.disk) c.commit.result) (sym at) (c.commit.ensures.calls (c.args.command ∷ []) mine));
      honest = c.commit.ensures.call.follows.honest;
    }

pub commit-requires-clause-right : goal.commit-requires-clause-right
commit-requires-clause-right g c =
    let kept = g.K.BatchKeeper.kept in
    let at = c.args.self.now.same (sym c.in_default.ensures.answer) in
    let done = c.in-Ok-run_prepared.ensures in
    let renewal = c.in-Ok-run_prepared.field-0.renewal in
    keepable_one g.J.Job.kind (kept c.args.self.now.keeper).state c.args.command (map plain c.push_reserved.new.self.items) renewal (subst (λ (t : Plain g.row.J.Denot). IsRenewalFor t c.args.command renewal) at done.renews)
    (subst (λ (t : Plain g.row.J.Denot). refusal g.J.Job.kind t c.args.command ≡ None) at done.exact)
    (rw (c.push_reserved.ensures.items, c.in-Ok.ensures.items) (ap (λ r. r ∷ []) (done.kept_as ∙ ap (λ (t : Plain g.row.J.Denot). record_of g.J.Job.kind t c.args.command) at)))

pub returns-clause-doubt : goal.returns-clause-doubt
returns-clause-doubt g c = λ whole.
    let done = c.in-Ok-run_prepared.ensures in
    subst (λ f. IsInDoubt g.J.Job.kind c.args.self.now.state c.args.command (Failed f)) (sym c.stopped-in-Err-commit.ensures) (c.in-Ok-run_prepared.field-0.done.reply, rw done.exact (ap Ok (sym done.reply)))

pub returns-in-Ok-commit-clause-done : goal.returns-in-Ok-commit-clause-done
returns-in-Ok-commit-clause-done g c =
    let kept = g.K.BatchKeeper.kept in
    let at = c.args.self.now.same (sym c.in_default.ensures.answer) in
    let done = c.in-Ok-run_prepared.ensures in
    let mine : AreKeptAs g.J.Job.kind (kept c.args.self.now.keeper).state (c.args.command ∷ []) (map plain c.push_reserved.new.self.items) =
    one_kept g.J.Job.kind (kept c.args.self.now.keeper).state c.args.command (map plain c.push_reserved.new.self.items) (subst (λ (t : Plain g.row.J.Denot). refusal g.J.Job.kind t c.args.command ≡ None) at done.exact)
    (rw (c.push_reserved.ensures.items, c.in-Ok.ensures.items) (ap (λ r. r ∷ []) (done.kept_as ∙ ap (λ (t : Plain g.row.J.Denot). record_of g.J.Job.kind t c.args.command) at))) in
    record {
      number = c.in-Ok-commit.ensures.call.mark.0 ∙ ap (λ (t : Plain g.row.J.Denot). t.number) (c.in-Ok-commit.ensures.state (c.args.command ∷ []) mine) ∙ ap (λ (t : Plain g.row.J.Denot). t.number + 1) (sym at);
      clock_now = c.in-Ok-commit.ensures.call.mark.1;
      reply = rw done.exact (ap Ok (sym done.reply));
      state = done.outcome c.args.self.now.state [] (sym (outcome-none g.J.Job.kind c.args.self.now.state));
      whole = c.in-Ok-commit.ensures.call.whole.1;
    }

pub returns-in-Some-clause-doubt : goal.returns-in-Some-clause-doubt
returns-in-Some-clause-doubt g c = λ none. absurd (let e = c.in-Some.ensures.answer ∙ none in cc)

pub returns-in-Some-clause-stops : goal.returns-in-Some-clause-stops
returns-in-Some-clause-stops g c =
    let kept = g.K.BatchKeeper.kept in
    let failed = g.K.BatchKeeper.failed in
    let old = c.args.self.now in
    let was = failed old.keeper in
    let n = (kept old.keeper).state.number in
    stops_failed n was _ _ c.stopped.result c.in-Some.cause c.in-Some.ensures.answer c.stopped.ensures (sym c.in-Some.ensures.answer, λ none. absurd (let e = c.in-Some.ensures.answer ∙ none in cc)) (refl, refl)

pub returns-in-Ok-commit-clause-stops : goal.returns-in-Ok-commit-clause-stops
returns-in-Ok-commit-clause-stops g c =
    let kept = g.K.BatchKeeper.kept in
    let failed = g.K.BatchKeeper.failed in
    let old = c.args.self.now in
    let was = failed old.keeper in
    let n = (kept old.keeper).state.number in
    stops_ok n was _ _ _ c.in_default.ensures.answer

pub returns-clause-stops : goal.returns-clause-stops
returns-clause-stops g c =
    let kept = g.K.BatchKeeper.kept in
    let failed = g.K.BatchKeeper.failed in
    let old = c.args.self.now in
    let was = failed old.keeper in
    let n = (kept old.keeper).state.number in
    let call = c.commit.ensures.call in
    let h = c.in-Err-commit.ensures.call in
    stops_failing n was _ _ c.stopped-in-Err-commit.result c.in-Err-commit.cause c.in_default.ensures.answer
    (c.stopped-in-Err-commit.ensures ∙ ap (λ (s : Plain g.row.J.Denot). stopped_at s.number c.in-Err-commit.cause) h.same)
    (h.fails, λ none disk. h.device none (ap Err disk))
