use Rattle.std.proofs.Common.{◌≡◌, Ok, Err, sym, ap, subst, ◌∙◌, [], ◌∷◌, ◌+◌, None}
use Rattle.pfx_machine.specs.Plain.{Plain, IsState}
use Rattle.pfx_machine.specs.Outcome.{outcome}
use Rattle.pfx_machine.specs.Runs.{answer}
use Rattle.pfx_store.specs.Stores.{PlainStore}
use Rattle.pfx_store_engine.specs.Failing.{MayFail}
use Rattle.pfx_store_engine.specs.KeepingLaws.{keeps_none}
use Rattle.pfx_store_engine.proofs.Promising.{keeps_one, keeps_doubt, not_done, not_failed, err_is, fails_known}
use Rattle.pfx_store_engine.proofs.durable.DurableEngineEngine.ask.Goals as goal

pub returns-in-Ok-clause-done : goal.returns-in-Ok-clause-done
returns-in-Ok-clause-done g c =
    let kept = g.K.BatchKeeper.kept in
    let failed = g.K.BatchKeeper.failed in
    let V = g.D.Disk.view in
    let old = c.args.self.now in
    let new = c.execute.new.self in
    let h = c.in-Ok.ensures in
    let whole : failed old.keeper ≡ None = not_failed (failed old.keeper) c.execute.result (c.in-Ok.mark, c.in-Ok.reply) c.in-Ok.is (λ cause was. (c.execute.ensures.stops.stopped cause was).0) in
    let at = old.same whole in
    let next = new.same h.done.whole in
    let moved : (kept new.keeper).state ≡ outcome g.J.Job.kind (kept old.keeper).state (c.args.command ∷ []) = sym next ∙ h.done.state ∙ ap (λ (s : Plain g.row.J.Denot). outcome g.J.Job.kind s (c.args.command ∷ [])) at in
    let accepted : answer g.J.Job.kind (kept old.keeper).state c.args.command ≡ Ok c.in-Ok.reply = subst (λ (s : Plain g.row.J.Denot). answer g.J.Job.kind s c.args.command ≡ Ok c.in-Ok.reply) at h.done.reply in
    record {
      accepted = accepted;
      next = h.done.number ∙ ap (λ (s : Plain g.row.J.Denot). s.number + 1) at;
      state = moved;
      keeps = keeps_one g.J.Job.kind (V (kept old.keeper).file.disk) (V (kept new.keeper).file.disk) (failed old.keeper) (kept old.keeper).state (kept new.keeper).state c.args.command (c.in-Ok.reply, accepted) moved h.calls.honest.0
          (λ honest image here. (h.commits honest).acknowledged image (subst (λ n. (V (kept new.keeper).file.disk).since n image) (sym h.done.clock_now) here) ∙ ap Ok next);
      settled = h.done.whole;
    }

pub returns-in-Err-clause-not_done : goal.returns-in-Err-clause-not_done
returns-in-Err-clause-not_done g c =
    let kept = g.K.BatchKeeper.kept in
    let failed = g.K.BatchKeeper.failed in
    let V = g.D.Disk.view in
    let old = c.args.self.now in
    let new = c.execute.new.self in
    let h = c.in-Err.ensures in
    not_done g.J.Job.kind (λ engine. V (kept engine.keeper).file.disk) (λ engine. failed engine.keeper) (λ engine. (kept engine.keeper).state) (MayFail failed) c.args.command old new old.state new.state _ _ c.in-Err.fault
    old.same h.refused.0 h.refused.1 h.doubt h.stops.fails (λ cause known. (new.keeper, known.0))
    (λ y. rw y.1 (keeps_none g.J.Job.kind (V (kept old.keeper).file.disk) (failed old.keeper) (kept old.keeper).state, λ whole. whole))
    (λ cause was. let t = c.execute.ensures.stops.stopped cause was in (err_is c.execute.result _ c.in-Err.fault c.in-Err.is t.0, t.1))
    (λ accepted. keeps_doubt g.J.Job.kind (V (kept old.keeper).file.disk) (V (kept new.keeper).file.disk) (failed old.keeper) (kept old.keeper).state (kept new.keeper).state c.args.command (subst IsState (c.state.ensures ∙ ap (λ (store : PlainStore _ g.row.J.Denot). store.state) c.stored.ensures) c.number-number.ensures.state) accepted h.calls.takes.later h.calls.honest.0 (λ honest. (h.commits honest).keeps))

pub returns-in-Ok-clause-commits : goal.returns-in-Ok-clause-commits
returns-in-Ok-clause-commits g c =
    let kept = g.K.BatchKeeper.kept in
    λ honest.
    (let V = g.D.Disk.view in
    let h = c.in-Ok.ensures in
    let one = h.commits honest in
    record {
      keeps = one.keeps;
      acknowledged = λ image here. one.acknowledged image (subst (λ n. (V (kept c.execute.new.self.keeper).file.disk).since n image) (sym h.done.clock_now) here);
    })

pub returns-in-Err-clause-commits : goal.returns-in-Err-clause-commits
returns-in-Err-clause-commits g c = λ honest. record { keeps = (c.in-Err.ensures.commits honest).keeps; acknowledged = tt }

pub returns-in-Ok-clause-accepted : goal.returns-in-Ok-clause-accepted
returns-in-Ok-clause-accepted g c =
    let done = c.in-Ok.ensures.done in
    record { reply = done.reply; moves = done.state; whole = done.whole }

pub returns-in-Ok-clause-stops : goal.returns-in-Ok-clause-stops
returns-in-Ok-clause-stops g c = record {
  fails = tt;
  stopped = λ cause was. absurd (let e = sym c.in-Ok.is ∙ (c.execute.ensures.stops.stopped cause was).0 in cc);
}

pub returns-in-Err-clause-stops : goal.returns-in-Err-clause-stops
returns-in-Err-clause-stops g c =
    let kept = g.K.BatchKeeper.kept in
    let n = (kept c.args.self.now.keeper).state.number in
    record {
      fails = fails_known n _ _ _ c.in-Err.fault (λ cause known. known.0) c.in-Err.ensures.stops.fails;
      stopped = λ cause was. let t = c.execute.ensures.stops.stopped cause was in (ap Err (err_is c.execute.result _ c.in-Err.fault c.in-Err.is t.0), t.1);
    }

pub returns-in-Ok-clause-calls : goal.returns-in-Ok-clause-calls
returns-in-Ok-clause-calls g c =
    let calls = c.in-Ok.ensures.calls in
    record { goes = record { later = calls.takes.later; no_fewer = calls.takes.no_fewer }; honest = calls.honest }

pub returns-in-Err-clause-calls : goal.returns-in-Err-clause-calls
returns-in-Err-clause-calls g c =
    let calls = c.in-Err.ensures.calls in
    record { goes = record { later = calls.takes.later; no_fewer = calls.takes.no_fewer }; honest = calls.honest }
