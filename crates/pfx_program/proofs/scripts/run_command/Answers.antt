use Rattle.std.proofs.Common.{rules, ◌≡◌, ◌+◌, ◌∷◌, [], Err, sym, subst, refl, ℕ, length}
use Rattle.pfx_fault.specs.declared.refusals.Fault.TheVariants as fault
use Rattle.pfx_program.specs.Answers.{reply_line, refused_line}
use Rattle.pfx_program.specs.Faults.{fault_of_machine}
use Rattle.pfx_program.specs.Script.{Step, carried, command_step, refused, commands_of}
use Rattle.pfx_program.specs.Running.{run_of, Carried, Stopped}
use Rattle.pfx_program.proofs.StepLemmas.{same, shown_carried, shown_stopped, done_stopped, doubt_stopped}
use Rattle.pfx_program.proofs.PrintLemmas.{may_show, may_show_text}
use Rattle.pfx_fault.specs.declared.refusals.Fault.{Fault}
use Rattle.pfx_program.proofs.scripts.run_command.Goals as goal

pub returns-in_err-put_refused-clause-err : goal.returns-in_err-put_refused-clause-err
returns-in_err-put_refused-clause-err g c =
    let P = g.E.Engine.promise in
    let is : c.from_residual.result ≡ Err c.in_err-put_refused.field-0.0 = search rules in
    let step : command_step (run_of P c.args.form c.args.engine.now c.args.accepted.now) c.args.command ≡ refused c.args.form fault.SessionFull = search rules in
    rw is (subst (λ (x : Step). Stopped P 1 ⊥ (x ∷ []) c.args.engine.now c.args.engine.now (g.W.Printer.contents c.args.output.now) (g.W.Printer.contents c.put_refused.new.output) c.in_err-put_refused.field-0.0) (sym step)
    (shown_stopped P g.met.E.Engine.laws (refused c.args.form fault.SessionFull).text c.args.engine.now c.args.engine.now (g.W.Printer.contents c.args.output.now) (g.W.Printer.contents c.put_refused.new.output) c.in_err-put_refused.field-0.0
    (same P g.met.E.Engine.laws c.args.engine.now) c.in_err-put_refused.ensures.err))

pub returns-then-accepted-ge-MOST-clause-ok : goal.returns-then-accepted-ge-MOST-clause-ok
returns-then-accepted-ge-MOST-clause-ok g c =
    let P = g.E.Engine.promise in
    let step : command_step (run_of P c.args.form c.args.engine.now c.args.accepted.now) c.args.command ≡ refused c.args.form fault.SessionFull = search rules in
    subst (λ (x : Step). Carried P (x ∷ []) c.args.engine.now c.args.engine.now (g.W.Printer.contents c.args.output.now) (g.W.Printer.contents c.put_refused.new.output)) (sym step)
    (shown_carried P g.met.E.Engine.laws (refused c.args.form fault.SessionFull).text c.args.engine.now c.args.engine.now (g.W.Printer.contents c.args.output.now) (g.W.Printer.contents c.put_refused.new.output)
    (same P g.met.E.Engine.laws c.args.engine.now) (λ h. h) c.in_ok-put_refused.ensures.ok)

pub returns-in_err-put_reply-in-Ok-clause-err : goal.returns-in_err-put_reply-in-Ok-clause-err
returns-in_err-put_reply-in-Ok-clause-err g c =
    let P = g.E.Engine.promise in
    let is : c.from_residual-in_err-put_reply-in-Ok.result ≡ Err c.in_err-put_reply-in-Ok.field-0.0 = search rules in
    let done = c.in-Ok.ensures.done in
    let accepted = done.accepted in
    let step : command_step (run_of P c.args.form c.args.engine.now c.args.accepted.now) c.args.command ≡ carried (reply_line c.args.form ((P.state c.args.engine.now).number + 1) c.in-Ok.said) c.args.command = search rules in
    rw is (subst (λ (x : Step). Stopped P 1 ⊥ (x ∷ []) c.args.engine.now c.ask.new.self (g.W.Printer.contents c.args.output.now) (g.W.Printer.contents c.put_reply.new.output) c.in_err-put_reply-in-Ok.field-0.0) (sym step)
    (done_stopped P g.met.E.Engine.laws c.args.form c.args.command c.in-Ok.number c.in-Ok.said c.args.engine.now c.ask.new.self (g.W.Printer.contents c.args.output.now) (g.W.Printer.contents c.put_reply.new.output)
    c.in_err-put_reply-in-Ok.field-0.0 done c.in_err-put_reply-in-Ok.ensures.err))

pub returns-in_err-put_refused-in-Err-Refused-clause-err : goal.returns-in_err-put_refused-in-Err-Refused-clause-err
returns-in_err-put_refused-in-Err-Refused-clause-err g c =
    let P = g.E.Engine.promise in
    let is : c.from_residual-in_err-put_refused-in-Err-Refused.result ≡ Err c.in_err-put_refused-in-Err-Refused.field-0.0 = search rules in
    let (why, kept, settled) = rw c.in-Err-Refused.field-0-is at c.in-Err-Refused.ensures.not_done in
    let step : command_step (run_of P c.args.form c.args.engine.now c.args.accepted.now) c.args.command ≡ refused c.args.form (fault_of_machine c.in-Err-Refused.fault) = search rules in
    rw is (subst (λ (x : Step). Stopped P 1 ⊥ (x ∷ []) c.args.engine.now c.ask.new.self (g.W.Printer.contents c.args.output.now) (g.W.Printer.contents c.put_refused-in-Err-Refused.new.output) c.in_err-put_refused-in-Err-Refused.field-0.0)
    (sym step) (shown_stopped P g.met.E.Engine.laws (refused c.args.form (fault_of_machine c.in-Err-Refused.fault)).text c.args.engine.now c.ask.new.self (g.W.Printer.contents c.args.output.now)
    (g.W.Printer.contents c.put_refused-in-Err-Refused.new.output) c.in_err-put_refused-in-Err-Refused.field-0.0 kept (rw c.machine_fault-fault.ensures at c.in_err-put_refused-in-Err-Refused.ensures.err)))

pub returns-in_ok-put_refused-in-Err-Refused-clause-ok : goal.returns-in_ok-put_refused-in-Err-Refused-clause-ok
returns-in_ok-put_refused-in-Err-Refused-clause-ok g c =
    let P = g.E.Engine.promise in
    let (why, kept, settled) = rw c.in-Err-Refused.field-0-is at c.in-Err-Refused.ensures.not_done in
    let step : command_step (run_of P c.args.form c.args.engine.now c.args.accepted.now) c.args.command ≡ refused c.args.form (fault_of_machine c.in-Err-Refused.fault) = search rules in
    subst (λ (x : Step). Carried P (x ∷ []) c.args.engine.now c.ask.new.self (g.W.Printer.contents c.args.output.now) (g.W.Printer.contents c.put_refused-in-Err-Refused.new.output)) (sym step)
    (shown_carried P g.met.E.Engine.laws (refused c.args.form (fault_of_machine c.in-Err-Refused.fault)).text c.args.engine.now c.ask.new.self (g.W.Printer.contents c.args.output.now)
    (g.W.Printer.contents c.put_refused-in-Err-Refused.new.output) kept settled (rw c.machine_fault-fault.ensures at c.in_ok-put_refused-in-Err-Refused.ensures.ok))

pub returns-in-Err-Failed-clause-err : goal.returns-in-Err-Failed-clause-err
returns-in-Err-Failed-clause-err g c =
    let P = g.E.Engine.promise in
    let (why, left) = rw c.in-Err-Failed.field-0-is at c.in-Err-Failed.ensures.not_done in
    doubt_stopped P g.met.E.Engine.laws (λ reply. carried (reply_line c.args.form ((P.state c.args.engine.now).number + 1) reply) c.args.command)
    (command_step (run_of P c.args.form c.args.engine.now c.args.accepted.now) c.args.command) c.args.command c.args.engine.now c.ask.new.self (g.W.Printer.contents c.args.output.now) c.in-Err-Failed.fault
    (λ reply accepted. (search rules, refl)) why left

pub put_refused-requires : goal.put_refused-requires
put_refused-requires g c =
    let P = g.E.Engine.promise in
    let L = g.met.E.Engine.laws in
    let allows = g.W.Printer.allows in
    let was = g.W.Printer.contents c.args.output.now in
    let step : command_step (run_of P c.args.form c.args.engine.now c.args.accepted.now) c.args.command ≡ refused c.args.form fault.SessionFull = search rules in
    record {
      allowed = may_show_text P L allows c.args.engine.now c.args.engine.now was (command_step (run_of P c.args.form c.args.engine.now c.args.accepted.now) c.args.command) (refused_line c.args.form fault.SessionFull) [] c.requires.may
          step (same P L c.args.engine.now).keeps;
    }

pub put_reply-requires : goal.put_reply-requires
put_reply-requires g c =
    let P = g.E.Engine.promise in
    let L = g.met.E.Engine.laws in
    let allows = g.W.Printer.allows in
    let was = g.W.Printer.contents c.args.output.now in
    let done = c.in-Ok.ensures.done in
    let accepted = done.accepted in
    let x : Step = command_step (run_of P c.args.form c.args.engine.now c.args.accepted.now) c.args.command in
    let step : x ≡ carried (reply_line c.args.form ((P.state c.args.engine.now).number + 1) c.in-Ok.said) c.args.command = search rules in
    let kept : P.keeps c.args.engine.now (commands_of (x ∷ [])) (length (commands_of (x ∷ []))) c.ask.new.self =
    subst (λ (y : Step). P.keeps c.args.engine.now (commands_of (y ∷ [])) (length (commands_of (y ∷ []))) c.ask.new.self) (sym step) done.keeps in
    record {
      allowed = subst (λ (n : ℕ). allows c.ask.new.self was (reply_line c.args.form n c.in-Ok.said)) (sym done.next)
          (subst (λ (y : Step). allows c.ask.new.self was y.text) step (may_show P L allows c.args.engine.now c.ask.new.self was x [] c.requires.may kept));
    }

pub put_refused-requires-in-Err-Refused : goal.put_refused-requires-in-Err-Refused
put_refused-requires-in-Err-Refused g c =
    let P = g.E.Engine.promise in
    let L = g.met.E.Engine.laws in
    let allows = g.W.Printer.allows in
    let was = g.W.Printer.contents c.args.output.now in
    let (why, kept, settled) = rw c.in-Err-Refused.field-0-is at c.in-Err-Refused.ensures.not_done in
    let step : command_step (run_of P c.args.form c.args.engine.now c.args.accepted.now) c.args.command ≡ refused c.args.form (fault_of_machine c.in-Err-Refused.fault) = search rules in
    record {
      allowed = subst (λ (f : Fault). allows c.ask.new.self was (refused_line c.args.form f)) (sym c.machine_fault-fault.ensures)
          (may_show_text P L allows c.args.engine.now c.ask.new.self was (command_step (run_of P c.args.form c.args.engine.now c.args.accepted.now) c.args.command) (refused_line c.args.form (fault_of_machine c.in-Err-Refused.fault)) []
          c.requires.may step kept.keeps);
    }
