use Rattle.std.proofs.Common.{Some, rules, ◌≡◌, ◌∷◌, [], Err, true, false, OnOk, IfErr, subst, sym}
use Rattle.pfx_fault.specs.declared.refusals.Fault.TheVariants as fault
use Rattle.pfx_machine.specs.declared.command.Command.TheVariants.{Submit}
use Rattle.pfx_program.specs.Answers.{refused_line}
use Rattle.pfx_program.specs.Faults.{fault_of_start}
use Rattle.pfx_program.specs.Grants.{is_next}
use Rattle.pfx_program.specs.Script.{Step, command_step, refused, submitted}
use Rattle.pfx_program.specs.Running.{run_of, Carried, Stopped}
use Rattle.pfx_program.proofs.StepLemmas.{same, if_carried, if_stopped, failed_same, carried_same, if_err, on_ok, stopped_same, given_step, not_next_step}
use Rattle.pfx_program.proofs.PrintLemmas.{may_show_text, may_still}
use Rattle.pfx_program.specs.Printing.{MayPrint}
use Rattle.pfx_fault.specs.declared.refusals.Fault.{Fault}
use Rattle.pfx_program.proofs.scripts.run_submit.Goals as goal

pub returns-in-Err-clause-ok : goal.returns-in-Err-clause-ok
returns-in-Err-clause-ok g c =
    let P = g.E.Engine.promise in
    let step : submitted (run_of P c.args.form c.args.engine.now c.args.accepted.now) c.args.task c.args.job ≡ refused c.args.form (fault_of_start c.in-Err.fault) = search rules in
    subst (λ (x : Step). OnOk c.refuse-in-Err.result (Carried P (x ∷ []) c.args.engine.now c.args.engine.now (g.W.Printer.contents c.args.output.now) (g.W.Printer.contents c.refuse-in-Err.new.output))) (sym step)
    (if_carried P g.met.E.Engine.laws (Some (fault_of_start c.in-Err.fault)) (refused_line c.args.form (fault_of_start c.in-Err.fault)) c.args.engine.now c.args.engine.now (g.W.Printer.contents c.args.output.now) (g.W.Printer.contents c.refuse-in-Err.new.output)
    c.refuse-in-Err.result (same P g.met.E.Engine.laws c.args.engine.now) (λ h. h) (rw c.start_fault.ensures at c.refuse-in-Err.ensures.ok))

pub returns-in-Err-clause-err : goal.returns-in-Err-clause-err
returns-in-Err-clause-err g c =
    let P = g.E.Engine.promise in
    let step : submitted (run_of P c.args.form c.args.engine.now c.args.accepted.now) c.args.task c.args.job ≡ refused c.args.form (fault_of_start c.in-Err.fault) = search rules in
    subst (λ (x : Step). IfErr c.refuse-in-Err.result (Stopped P 1 ⊥ (x ∷ []) c.args.engine.now c.args.engine.now (g.W.Printer.contents c.args.output.now) (g.W.Printer.contents c.refuse-in-Err.new.output))) (sym step)
    (if_stopped P g.met.E.Engine.laws (Some (fault_of_start c.in-Err.fault)) (refused_line c.args.form (fault_of_start c.in-Err.fault)) c.args.engine.now c.args.engine.now (g.W.Printer.contents c.args.output.now) (g.W.Printer.contents c.refuse-in-Err.new.output)
    c.refuse-in-Err.result (same P g.met.E.Engine.laws c.args.engine.now) (rw c.start_fault.ensures at c.refuse-in-Err.ensures.err))

pub returns-in_err-is_next-in-Ok-clause-err : goal.returns-in_err-is_next-in-Ok-clause-err
returns-in_err-is_next-in-Ok-clause-err g c =
    let P = g.E.Engine.promise in
    let is : c.from_residual.result ≡ Err c.in_err-is_next-in-Ok.field-0.0 = search rules in
    rw is (failed_same P g.met.E.Engine.laws (submitted (run_of P c.args.form c.args.engine.now c.args.accepted.now) c.args.task c.args.job) c.args.engine.now c.is_next.new.engine (g.W.Printer.contents c.args.output.now)
    c.in_err-is_next-in-Ok.field-0.0 c.in_err-is_next-in-Ok.ensures.fails c.is_next.ensures.same)

pub returns-then-not-branch-clause-ok : goal.returns-then-not-branch-clause-ok
returns-then-not-branch-clause-ok g c =
    let P = g.E.Engine.promise in
    let next : is_next (P.state c.args.engine.now) c.args.task c.is_next.new.job ≡ false = search rules in
    let step = not_next_step c.args.form (P.state c.args.engine.now) c.args.accepted.now c.args.task c.args.job c.in-Ok.job c.is_next.new.job c.in-Ok.is c.in_ok-is_next-in-Ok.ensures.counted next in
    subst (λ (x : Step). OnOk c.refuse.result (Carried P (x ∷ []) c.args.engine.now c.is_next.new.engine (g.W.Printer.contents c.args.output.now) (g.W.Printer.contents c.refuse.new.output))) (sym step)
    (if_carried P g.met.E.Engine.laws (Some (fault.NotNext c.args.task)) (refused_line c.args.form (fault.NotNext c.args.task)) c.args.engine.now c.is_next.new.engine (g.W.Printer.contents c.args.output.now) (g.W.Printer.contents c.refuse.new.output)
    c.refuse.result c.is_next.ensures.same c.in_ok-is_next-in-Ok.ensures.settled c.refuse.ensures.ok)

pub returns-then-not-branch-clause-err : goal.returns-then-not-branch-clause-err
returns-then-not-branch-clause-err g c =
    let P = g.E.Engine.promise in
    let next : is_next (P.state c.args.engine.now) c.args.task c.is_next.new.job ≡ false = search rules in
    let step = not_next_step c.args.form (P.state c.args.engine.now) c.args.accepted.now c.args.task c.args.job c.in-Ok.job c.is_next.new.job c.in-Ok.is c.in_ok-is_next-in-Ok.ensures.counted next in
    subst (λ (x : Step). IfErr c.refuse.result (Stopped P 1 ⊥ (x ∷ []) c.args.engine.now c.is_next.new.engine (g.W.Printer.contents c.args.output.now) (g.W.Printer.contents c.refuse.new.output))) (sym step)
    (if_stopped P g.met.E.Engine.laws (Some (fault.NotNext c.args.task)) (refused_line c.args.form (fault.NotNext c.args.task)) c.args.engine.now c.is_next.new.engine (g.W.Printer.contents c.args.output.now) (g.W.Printer.contents c.refuse.new.output)
    c.refuse.result c.is_next.ensures.same c.refuse.ensures.err)

pub returns-else-not-branch-clause-err : goal.returns-else-not-branch-clause-err
returns-else-not-branch-clause-err g c =
    let P = g.E.Engine.promise in
    let next : is_next (P.state c.args.engine.now) c.args.task c.is_next.new.job ≡ true = search rules in
    let step = given_step c.args.form (P.state c.args.engine.now) (P.state c.is_next.new.engine) c.args.accepted.now c.args.task c.args.job c.in-Ok.job c.is_next.new.job c.in-Ok.is c.is_next.ensures.same.state c.in_ok-is_next-in-Ok.ensures.counted next in
    if_err P g.met.E.Engine.laws c.run_command.result
    (λ f h. subst (λ (x : Step). Stopped P 1 ⊥ (x ∷ []) c.args.engine.now c.run_command.new.engine (g.W.Printer.contents c.args.output.now) (g.W.Printer.contents c.run_command.new.output) f) (sym step)
    (stopped_same P g.met.E.Engine.laws (command_step (run_of P c.args.form c.is_next.new.engine c.args.accepted.now) (Submit c.args.task c.is_next.new.job) ∷ []) c.args.engine.now c.is_next.new.engine c.run_command.new.engine
    (g.W.Printer.contents c.args.output.now) (g.W.Printer.contents c.run_command.new.output) f c.is_next.ensures.same c.in_ok-is_next-in-Ok.ensures.settled h)) c.run_command.ensures.err

pub returns-else-not-branch-clause-ok : goal.returns-else-not-branch-clause-ok
returns-else-not-branch-clause-ok g c =
    let P = g.E.Engine.promise in
    let next : is_next (P.state c.args.engine.now) c.args.task c.is_next.new.job ≡ true = search rules in
    let step = given_step c.args.form (P.state c.args.engine.now) (P.state c.is_next.new.engine) c.args.accepted.now c.args.task c.args.job c.in-Ok.job c.is_next.new.job c.in-Ok.is c.is_next.ensures.same.state c.in_ok-is_next-in-Ok.ensures.counted next in
    on_ok P g.met.E.Engine.laws c.run_command.result
    (λ h. subst (λ (x : Step). Carried P (x ∷ []) c.args.engine.now c.run_command.new.engine (g.W.Printer.contents c.args.output.now) (g.W.Printer.contents c.run_command.new.output)) (sym step)
    (carried_same P g.met.E.Engine.laws (command_step (run_of P c.args.form c.is_next.new.engine c.args.accepted.now) (Submit c.args.task c.is_next.new.job) ∷ []) c.args.engine.now c.is_next.new.engine c.run_command.new.engine
    (g.W.Printer.contents c.args.output.now) (g.W.Printer.contents c.run_command.new.output) c.is_next.ensures.same c.in_ok-is_next-in-Ok.ensures.settled h)) c.run_command.ensures.ok

pub refuse-requires : goal.refuse-requires
refuse-requires g c =
    let P = g.E.Engine.promise in
    let L = g.met.E.Engine.laws in
    let allows = g.W.Printer.allows in
    let was = g.W.Printer.contents c.args.output.now in
    let next : is_next (P.state c.args.engine.now) c.args.task c.is_next.new.job ≡ false = search rules in
    let step = not_next_step c.args.form (P.state c.args.engine.now) c.args.accepted.now c.args.task c.args.job c.in-Ok.job c.is_next.new.job c.in-Ok.is c.in_ok-is_next-in-Ok.ensures.counted next in
    record {
      allowed = may_show_text P L allows c.args.engine.now c.is_next.new.engine was (submitted (run_of P c.args.form c.args.engine.now c.args.accepted.now) c.args.task c.args.job) (refused_line c.args.form (fault.NotNext c.args.task)) []
          c.requires.may step c.is_next.ensures.same.keeps;
    }

pub run_command-requires : goal.run_command-requires
run_command-requires g c =
    let P = g.E.Engine.promise in
    let L = g.met.E.Engine.laws in
    let allows = g.W.Printer.allows in
    let was = g.W.Printer.contents c.args.output.now in
    let next : is_next (P.state c.args.engine.now) c.args.task c.is_next.new.job ≡ true = search rules in
    let step = given_step c.args.form (P.state c.args.engine.now) (P.state c.is_next.new.engine) c.args.accepted.now c.args.task c.args.job c.in-Ok.job c.is_next.new.job c.in-Ok.is c.is_next.ensures.same.state c.in_ok-is_next-in-Ok.ensures.counted next in
    record {
      may = may_still P L allows c.args.engine.now c.is_next.new.engine was (command_step (run_of P c.args.form c.is_next.new.engine c.args.accepted.now) (Submit c.args.task c.is_next.new.job) ∷ []) c.is_next.ensures.same
          c.in_ok-is_next-in-Ok.ensures.settled (subst (λ (x : Step). MayPrint P allows c.args.engine.now was (x ∷ [])) step c.requires.may);
    }

pub refuse-requires-in-Err : goal.refuse-requires-in-Err
refuse-requires-in-Err g c =
    let P = g.E.Engine.promise in
    let L = g.met.E.Engine.laws in
    let allows = g.W.Printer.allows in
    let was = g.W.Printer.contents c.args.output.now in
    let step : submitted (run_of P c.args.form c.args.engine.now c.args.accepted.now) c.args.task c.args.job ≡ refused c.args.form (fault_of_start c.in-Err.fault) = search rules in
    record {
      allowed = subst (λ (f : Fault). allows c.args.engine.now was (refused_line c.args.form f)) (sym c.start_fault.ensures)
          (may_show_text P L allows c.args.engine.now c.args.engine.now was (submitted (run_of P c.args.form c.args.engine.now c.args.accepted.now) c.args.task c.args.job) (refused_line c.args.form (fault_of_start c.in-Err.fault)) []
          c.requires.may step (same P L c.args.engine.now).keeps);
    }
