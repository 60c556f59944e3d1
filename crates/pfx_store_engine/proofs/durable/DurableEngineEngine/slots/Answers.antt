use Rattle.std.proofs.Common.{rules, ◌≡◌, inl, inr, List, ℕ, map, refl, sym, ap, subst, ◌∙◌, arith, None}
use Rattle.pfx_store.specs.Groups.{AreRecordsOf}
use Rattle.pfx_store.proofs.Grouping.{common_kept}
use Rattle.pfx_machine.specs.Plain.{Plain, IsState}
use Rattle.pfx_machine.specs.Outcome.{outcome}
use Rattle.pfx_machine.specs.declared.command.Command.{Command}
use Rattle.pfx_fault.specs.declared.refusals.Fault.TheVariants as fault
use Rattle.pfx_store_engine.specs.declared.engine.EngineFault.TheVariants as enginefault
use Rattle.std.proofs.lemmas.Bool.{true≢false}
use Rattle.pfx_store_engine.specs.Promises.{AreAnswered, slots_for}
use Rattle.pfx_store_engine.proofs.Slots.{length_slots}
use Rattle.pfx_record.specs.Records.{plain}
use Rattle.pfx_store_engine.specs.Failing.{MayFail, stopped_at}
use Rattle.pfx_store_engine.specs.Keeping.{KeepsFrom}
use Rattle.pfx_store_engine.specs.KeepingLaws.{keeps_none}
use Rattle.pfx_store_engine.proofs.Keeps.{worked}
use Rattle.pfx_store_engine.proofs.Promising.{fails_more, keeps_all, keeps_some, slots_not_run, stops_failed, stops_failing, stops_ok, stops_refused}
use Rattle.pfx_store_engine.proofs.WindowLemmas.{run_long}
use Rattle.pfx_store_engine.proofs.durable.DurableEngineEngine.slots.Goals as goal

pub returns-in-Some-clause-not_done : goal.returns-in-Some-clause-not_done
returns-in-Some-clause-not_done g c =
    let kept = g.K.BatchKeeper.kept in
    let failed = g.K.BatchKeeper.failed in
    let old = c.args.self.now in
    rw c.stopped.ensures ((c.in-Some.cause, (old.keeper, sym c.in-Some.ensures.answer), refl), inl (record { state = refl; keeps = keeps_none g.J.Job.kind (g.D.Disk.view (kept old.keeper).file.disk) (failed old.keeper) (kept old.keeper).state }))

pub returns-then-self-clause-not_done : goal.returns-then-self-clause-not_done
returns-then-self-clause-not_done g c =
    let kept = g.K.BatchKeeper.kept in
    let failed = g.K.BatchKeeper.failed in
    let old = c.args.self.now in
    (tt, record { state = refl; keeps = keeps_none g.J.Job.kind (g.D.Disk.view (kept old.keeper).file.disk) (failed old.keeper) (kept old.keeper).state })

pub run_slots-requires : goal.run_slots-requires
run_slots-requires g c = omega (arith, c.min.ensures, c.requires.some)

pub commit-requires-clause-some : goal.commit-requires-clause-some
commit-requires-clause-some g c =
    let ran = c.in-Ok.ensures.ran in
    let long = run_long g.J.Job.kind plain c.args.self.now.state c.run_slots.new.state c.min.result c.in-Ok.field-0.said.items c.in-Ok.field-0.records.items ran in
    let some = ran.some in
    omega (arith, long, some)

pub commit-requires-clause-few : goal.commit-requires-clause-few
commit-requires-clause-few g c =
    let ran = c.in-Ok.ensures.ran in
    let long = run_long g.J.Job.kind plain c.args.self.now.state c.run_slots.new.state c.min.result c.in-Ok.field-0.said.items c.in-Ok.field-0.records.items ran in
    let few = ran.few in
    omega (arith, long, few, c.min.ensures)

pub returns-in-Err-clause-not_done : goal.returns-in-Err-clause-not_done
returns-in-Err-clause-not_done g c =
    let kept = g.K.BatchKeeper.kept in
    let failed = g.K.BatchKeeper.failed in
    let V = g.D.Disk.view in
    let old = c.args.self.now in
    let whole : failed old.keeper ≡ None = sym c.in_default.ensures.answer in
    slots_not_run g.J.Job.kind (λ engine. V (kept engine.keeper).file.disk) (λ engine. failed engine.keeper) (λ engine. (kept engine.keeper).state) (MayFail failed) c.args.count old _ old.state c.run_slots.new.state _ c.in-Err.why
    (old.same whole) c.in-Err.ensures.refused c.in-Err.ensures.why (record { state = refl; keeps = keeps_none g.J.Job.kind (V (kept old.keeper).file.disk) (failed old.keeper) (kept old.keeper).state }) (λ h. h)

pub returns-in-Ok-commit-clause-done : goal.returns-in-Ok-commit-clause-done
returns-in-Ok-commit-clause-done g c =
    let kept = g.K.BatchKeeper.kept in
    let failed = g.K.BatchKeeper.failed in
    let V = g.D.Disk.view in
    let old = c.args.self.now in
    let at = old.same (sym c.in_default.ensures.answer) in
    let ran = c.in-Ok.ensures.ran in
    let said = c.in-Ok.field-0.said.items in
    let G : List (Command g.row.J.Denot) = slots_for said in
    let few = ran.few in
    let mine : AreRecordsOf g.J.Job.kind (kept old.keeper).state G (map plain c.in-Ok.field-0.records.items) = subst (λ (s : Plain g.row.J.Denot). AreRecordsOf g.J.Job.kind s G (map plain c.in-Ok.field-0.records.items)) at ran.recorded in
    let moved : (kept c.commit.new.keeper).state ≡ outcome g.J.Job.kind (kept old.keeper).state G = c.in-Ok-commit.ensures.state G (common_kept _ _ _ _ mine) in
    record {
      some = ran.some;
      few = omega (arith, few, c.min.ensures);
      answered = subst (λ (s : Plain g.row.J.Denot). AreAnswered g.J.Job.kind s said) at ran.answered;
      state = moved;
      keeps = subst (λ (n : ℕ). KeepsFrom g.J.Job.kind (V (kept old.keeper).file.disk) (failed old.keeper) (kept old.keeper).state G n (V (kept c.commit.new.keeper).file.disk) (kept c.commit.new.keeper).state) (length_slots g.row.J.Denot said)
          (keeps_all g.J.Job.kind (V (kept old.keeper).file.disk) (V (kept c.commit.new.keeper).file.disk) (failed old.keeper) (kept old.keeper).state (kept c.commit.new.keeper).state G mine.accepted moved c.in-Ok-commit.ensures.call.follows.honest.0 c.in-Ok-commit.ensures.acknowledged);
      settled = search rules;
    }

pub returns-in-Err-commit-clause-not_done : goal.returns-in-Err-commit-clause-not_done
returns-in-Err-commit-clause-not_done g c =
    let kept = g.K.BatchKeeper.kept in
    let failed = g.K.BatchKeeper.failed in
    let V = g.D.Disk.view in
    let old = c.args.self.now in
    let at = old.same (sym c.in_default.ensures.answer) in
    let ran = c.in-Ok.ensures.ran in
    let said = c.in-Ok.field-0.said.items in
    let G : List (Command g.row.J.Denot) = slots_for said in
    let few = ran.few in
    let some = ran.some in
    let mine : AreRecordsOf g.J.Job.kind (kept old.keeper).state G (map plain c.in-Ok.field-0.records.items) = subst (λ (s : Plain g.row.J.Denot). AreRecordsOf g.J.Job.kind s G (map plain c.in-Ok.field-0.records.items)) at ran.recorded in
    let same : (kept c.commit.new.keeper).state ≡ (kept old.keeper).state = c.in-Err-commit.ensures.call.same in
    rw c.stopped-in-Err-commit.ensures (
      (c.in-Err-commit.cause, (c.commit.new.keeper, c.in-Err-commit.ensures.call.fails), ap (λ (s : Plain g.row.J.Denot). stopped_at s.number c.in-Err-commit.cause) same),
      inr (record {
        said = said;
        few = omega (arith, few, c.min.ensures);
        answered = subst (λ (s : Plain g.row.J.Denot). AreAnswered g.J.Job.kind s said) at ran.answered;
        state = inl same;
        keeps = keeps_some g.J.Job.kind (V (kept old.keeper).file.disk) (V (kept c.commit.new.keeper).file.disk) (failed old.keeper) (kept old.keeper).state (kept c.commit.new.keeper).state G (subst IsState at c.number-number.ensures.state) mine.accepted
            (omega (arith, some, length_slots g.row.J.Denot said)) c.in-Err-commit.ensures.call.follows.goes.later c.in-Err-commit.ensures.call.follows.honest.0 (λ honest start H h all there. c.in-Err-commit.ensures.keeps honest start H G h all there (common_kept _ _ _ _ mine));
      }),
    )

pub returns-in-Some-clause-stops : goal.returns-in-Some-clause-stops
returns-in-Some-clause-stops g c =
    let kept = g.K.BatchKeeper.kept in
    let failed = g.K.BatchKeeper.failed in
    let old = c.args.self.now in
    let was = failed old.keeper in
    let n = (kept old.keeper).state.number in
    record {
      stops = stops_failed n was _ _ c.stopped.result c.in-Some.cause c.in-Some.ensures.answer c.stopped.ensures (sym c.in-Some.ensures.answer) (refl, refl);
      starved = λ none. absurd (let e = c.in-Some.ensures.answer ∙ none in cc);
    }

pub returns-then-self-clause-stops : goal.returns-then-self-clause-stops
returns-then-self-clause-stops g c =
    let kept = g.K.BatchKeeper.kept in
    let failed = g.K.BatchKeeper.failed in
    let old = c.args.self.now in
    let was = failed old.keeper in
    let n = (kept old.keeper).state.number in
    record { stops = stops_refused n was _ _ (enginefault.Failed fault.NoMemory) c.in_default.ensures.answer (refl, refl); starved = λ none starved. (refl, (refl, refl)) }

pub returns-in-Err-clause-stops : goal.returns-in-Err-clause-stops
returns-in-Err-clause-stops g c =
    let kept = g.K.BatchKeeper.kept in
    let failed = g.K.BatchKeeper.failed in
    let old = c.args.self.now in
    let was = failed old.keeper in
    let n = (kept old.keeper).state.number in
    record {
      stops = stops_refused n was _ _ c.in-Err.why c.in_default.ensures.answer (fails_more n _ _ _ c.in-Err.why (λ same. (same, refl)) c.in-Err.ensures.why);
      starved = λ none starved. absurd (true≢false (sym starved ∙ c.if-self.false));
    }

pub returns-in-Ok-commit-clause-stops : goal.returns-in-Ok-commit-clause-stops
returns-in-Ok-commit-clause-stops g c =
    let kept = g.K.BatchKeeper.kept in
    let failed = g.K.BatchKeeper.failed in
    let old = c.args.self.now in
    let was = failed old.keeper in
    let n = (kept old.keeper).state.number in
    record { stops = stops_ok n was _ _ _ c.in_default.ensures.answer; starved = λ none starved. absurd (true≢false (sym starved ∙ c.if-self.false)) }

pub returns-in-Err-commit-clause-stops : goal.returns-in-Err-commit-clause-stops
returns-in-Err-commit-clause-stops g c =
    let kept = g.K.BatchKeeper.kept in
    let failed = g.K.BatchKeeper.failed in
    let old = c.args.self.now in
    let was = failed old.keeper in
    let n = (kept old.keeper).state.number in
    let h = c.in-Err-commit.ensures.call in
    record {
      stops = stops_failing n was _ _ c.stopped-in-Err-commit.result c.in-Err-commit.cause c.in_default.ensures.answer
          (c.stopped-in-Err-commit.ensures ∙ ap (λ (s : Plain g.row.J.Denot). stopped_at s.number c.in-Err-commit.cause) h.same) h.fails;
      starved = λ none starved. absurd (true≢false (sym starved ∙ c.if-self.false));
    }

pub invariant_of-self-in-Ok : goal.invariant_of-self-in-Ok
invariant_of-self-in-Ok g c = record {
  same = λ whole.
      let kept = g.K.BatchKeeper.kept in
      let old = c.args.self.now in
      let at = old.same (sym c.in_default.ensures.answer) in
      let ran = c.in-Ok.ensures.ran in
      let G : List (Command g.row.J.Denot) = slots_for c.in-Ok.field-0.said.items in
      let mine : AreRecordsOf g.J.Job.kind (kept old.keeper).state G (map plain c.in-Ok.field-0.records.items) = subst (λ (s : Plain g.row.J.Denot). AreRecordsOf g.J.Job.kind s G (map plain c.in-Ok.field-0.records.items)) at ran.recorded in
      ran.state ∙ (ap (λ (s : Plain g.row.J.Denot). outcome g.J.Job.kind s G) at
      ∙ sym (worked c.commit.result _ c.commit.ensures.call.fails whole (c.commit.ensures.state G (common_kept _ _ _ _ mine))));
}
