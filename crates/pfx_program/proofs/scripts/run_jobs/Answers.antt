use Rattle.std.proofs.Common.{Some, rules, ◌≡◌, Ok, Err, [], ◌∷◌, OnOk, IfOk, IfErr, ap, sym, subst, List, ℕ}
use Rattle.pfx_fault.specs.declared.refusals.Fault.TheVariants as fault
use Rattle.pfx_program.specs.Answers.{refused_line}
use Rattle.pfx_program.specs.Jobs.{shown_jobs, IsNotShown}
use Rattle.pfx_program.specs.Script.{Step, jobs_step, refusal_of}
use Rattle.pfx_program.specs.Running.{Carried, Stopped}
use Rattle.pfx_program.proofs.JobLines.{not_shown}
use Rattle.pfx_program.proofs.StepLemmas.{if_carried, if_stopped, shown_carried, shown_stopped, failed_same}
use Rattle.pfx_program.proofs.PrintLemmas.{may_show_text}
use Rattle.pfx_program.proofs.scripts.run_jobs.Goals as goal

pub returns-in_err-state-clause-err : goal.returns-in_err-state-clause-err
returns-in_err-state-clause-err g c =
    let P = g.E.Engine.promise in
    let is : c.from_residual.result ≡ Err c.in_err-state.field-0.0 = search rules in
    rw is (failed_same P g.met.E.Engine.laws (jobs_step c.args.form (shown_jobs c.args.form (P.state c.args.engine.now).jobs c.args.task)) c.args.engine.now c.state.new.self (g.W.Printer.contents c.args.output.now)
    c.in_err-state.field-0.0 c.in_err-state.ensures.fails c.state.ensures.same)

pub returns-in-Ok-clause-ok : goal.returns-in-Ok-clause-ok
returns-in-Ok-clause-ok g c =
    let P = g.E.Engine.promise in
    let is : shown_jobs c.args.form (P.state c.args.engine.now).jobs c.args.task ≡ Ok c.in-Ok.text.items = search rules in
    subst (λ (x : Step). Carried P (x ∷ []) c.args.engine.now c.state.new.self (g.W.Printer.contents c.args.output.now) (g.W.Printer.contents c.put_bytes.new.output)) (sym (ap (jobs_step c.args.form) is))
    (shown_carried P g.met.E.Engine.laws c.in-Ok.text.items c.args.engine.now c.state.new.self (g.W.Printer.contents c.args.output.now) (g.W.Printer.contents c.put_bytes.new.output) c.state.ensures.same
    (λ h. c.in_ok-state.ensures.settled) (search rules))

pub returns-in-Ok-clause-told : goal.returns-in-Ok-clause-told
returns-in-Ok-clause-told g c =
    let P = g.E.Engine.promise in
    let is : shown_jobs c.args.form (P.state c.args.engine.now).jobs c.args.task ≡ Ok c.in-Ok.text.items = search rules in
    sym (ap (λ o. refusal_of (jobs_step c.args.form o ∷ [])) is)

pub returns-in_err-put_bytes-in-Ok-clause-err : goal.returns-in_err-put_bytes-in-Ok-clause-err
returns-in_err-put_bytes-in-Ok-clause-err g c =
    let P = g.E.Engine.promise in
    let failed : c.from_residual-in_err-put_bytes-in-Ok.result ≡ Err c.in_err-put_bytes-in-Ok.field-0.0 = search rules in
    let is : shown_jobs c.args.form (P.state c.args.engine.now).jobs c.args.task ≡ Ok c.in-Ok.text.items = search rules in
    rw failed (subst (λ (x : Step). Stopped P 1 ⊥ (x ∷ []) c.args.engine.now c.state.new.self (g.W.Printer.contents c.args.output.now) (g.W.Printer.contents c.put_bytes.new.output) c.in_err-put_bytes-in-Ok.field-0.0)
    (sym (ap (jobs_step c.args.form) is)) (shown_stopped P g.met.E.Engine.laws c.in-Ok.text.items c.args.engine.now c.state.new.self (g.W.Printer.contents c.args.output.now) (g.W.Printer.contents c.put_bytes.new.output)
    c.in_err-put_bytes-in-Ok.field-0.0 c.state.ensures.same (search rules)))

pub returns-in-NoMemory-clause-err : goal.returns-in-NoMemory-clause-err
returns-in-NoMemory-clause-err g c =
    let P = g.E.Engine.promise in
    rw c.in-NoMemory.is (failed_same P g.met.E.Engine.laws (jobs_step c.args.form (shown_jobs c.args.form (P.state c.args.engine.now).jobs c.args.task)) c.args.engine.now c.state.new.self
    (g.W.Printer.contents c.args.output.now) fault.NoMemory tt c.state.ensures.same)

pub returns : goal.returns
returns g c =
    let P = g.E.Engine.promise in
    let why : IsNotShown (shown_jobs c.args.form (P.state c.args.engine.now).jobs c.args.task) c.in-Err.fault = rw (← c.in_ok-state.ensures.copies) c.in-Err.ensures.err in
    let is : shown_jobs c.args.form (P.state c.args.engine.now).jobs c.args.task ≡ Err c.in-Err.fault = not_shown (shown_jobs c.args.form (P.state c.args.engine.now).jobs c.args.task) c.in-Err.fault why c.in_default.not-NoMemory in
    let step = sym (ap (jobs_step c.args.form) is) in
    record {
      ok = subst (λ (x : Step). OnOk c.refuse.result (Carried P (x ∷ []) c.args.engine.now c.state.new.self (g.W.Printer.contents c.args.output.now) (g.W.Printer.contents c.refuse.new.output))) step
          (if_carried P g.met.E.Engine.laws (Some c.in-Err.fault) (refused_line c.args.form c.in-Err.fault) c.args.engine.now c.state.new.self (g.W.Printer.contents c.args.output.now) (g.W.Printer.contents c.refuse.new.output)
          c.refuse.result c.state.ensures.same (λ h. c.in_ok-state.ensures.settled) c.refuse.ensures.ok);
      told = subst (λ (x : Step). IfOk c.refuse.result (λ why. why ≡ refusal_of (x ∷ []))) step c.refuse.ensures.told;
      settled = search rules;
      err = subst (λ (x : Step). IfErr c.refuse.result (Stopped P 1 ⊥ (x ∷ []) c.args.engine.now c.state.new.self (g.W.Printer.contents c.args.output.now) (g.W.Printer.contents c.refuse.new.output))) step
          (if_stopped P g.met.E.Engine.laws (Some c.in-Err.fault) (refused_line c.args.form c.in-Err.fault) c.args.engine.now c.state.new.self (g.W.Printer.contents c.args.output.now) (g.W.Printer.contents c.refuse.new.output)
          c.refuse.result c.state.ensures.same c.refuse.ensures.err);
    }

pub put_bytes-requires : goal.put_bytes-requires
put_bytes-requires g c =
    let P = g.E.Engine.promise in
    let L = g.met.E.Engine.laws in
    let allows = g.W.Printer.allows in
    let was = g.W.Printer.contents c.args.output.now in
    let is : shown_jobs c.args.form (P.state c.args.engine.now).jobs c.args.task ≡ Ok c.in-Ok.text.items = search rules in
    let text : c.as_slice.result.now ≡ c.in-Ok.text.items = search rules in
    record {
      allowed = subst (λ (t : List ℕ). allows c.state.new.self was t) (sym text)
          (may_show_text P L allows c.args.engine.now c.state.new.self was (jobs_step c.args.form (shown_jobs c.args.form (P.state c.args.engine.now).jobs c.args.task)) c.in-Ok.text.items [] c.requires.may
          (ap (jobs_step c.args.form) is) c.state.ensures.same.keeps);
    }

pub refuse-requires : goal.refuse-requires
refuse-requires g c =
    let P = g.E.Engine.promise in
    let L = g.met.E.Engine.laws in
    let allows = g.W.Printer.allows in
    let was = g.W.Printer.contents c.args.output.now in
    let why : IsNotShown (shown_jobs c.args.form (P.state c.args.engine.now).jobs c.args.task) c.in-Err.fault = rw (← c.in_ok-state.ensures.copies) c.in-Err.ensures.err in
    let is : shown_jobs c.args.form (P.state c.args.engine.now).jobs c.args.task ≡ Err c.in-Err.fault = not_shown (shown_jobs c.args.form (P.state c.args.engine.now).jobs c.args.task) c.in-Err.fault why c.in_default.not-NoMemory in
    record {
      allowed = may_show_text P L allows c.args.engine.now c.state.new.self was (jobs_step c.args.form (shown_jobs c.args.form (P.state c.args.engine.now).jobs c.args.task)) (refused_line c.args.form c.in-Err.fault) [] c.requires.may
          (ap (jobs_step c.args.form) is) c.state.ensures.same.keeps;
    }
