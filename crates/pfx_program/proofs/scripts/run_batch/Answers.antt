use Rattle.std.proofs.Common.{rules, ◌≡◌, ◌≤◌, ◌-◌, ◌∷◌, [], suc, Err, refl, arith, List, ℕ, length, sym, subst, ◌+◌, ◌++◌, ap, ◌∙◌}
use Rattle.pfx_fault.specs.declared.refusals.Fault.TheVariants as fault
use Rattle.pfx_machine.specs.declared.command.Command.TheVariants.{Slot}
use Rattle.pfx_program.specs.Faults.{fault_of_machine}
use Rattle.pfx_program.specs.Script.{command_step, refused, Step, moved, slot_steps}
use Rattle.pfx_program.specs.Running.{run_of, ran_steps}
use Rattle.pfx_program.proofs.StepLemmas.{same, shown_carried, shown_stopped, stopped_wider}
use Rattle.pfx_program.proofs.SlotLemmas.{done_slotted, done_unwritten, left_stopped, refused_slotted, refused_unwritten, ran_all, refused_slot}
use Rattle.pfx_store_engine.proofs.Slots.{length_slots}
use Rattle.pfx_program.proofs.PrintLemmas.{may_ran, may_show_text}
use Rattle.pfx_program.specs.Answers.{refused_line}
use Rattle.pfx_program.specs.Printing.{MayPrint}
use Rattle.pfx_store_engine.specs.Promises.{slots_for}
use Rattle.pfx_fault.specs.declared.refusals.Fault.{Fault}
use Rattle.pfx_program.proofs.scripts.run_batch.Goals as goal
use Rattle.pfx_kinds.specs.declared.any.AnyJob.{AnyJob}

pub returns-in_err-put_refused-clause-err : goal.returns-in_err-put_refused-clause-err
returns-in_err-put_refused-clause-err g c =
    let P = g.E.Engine.promise in
    let L = g.met.E.Engine.laws in
    let is : c.from_residual.result ≡ Err c.in_err-put_refused.field-0.0 = search rules in
    let step : command_step (run_of P c.args.run.form c.args.engine.now c.args.accepted.now) Slot ≡ refused c.args.run.form fault.SessionFull = search rules in
    let first : c.args.left ≡ suc (c.args.left - 1) = omega (arith, c.requires.left) in
    let some : 1 ≤ c.args.run.batch = c.args.run.some in
    rw is (refused_unwritten P c.args.run.form L (c.args.left - 1) c.args.accepted.now c.args.left (refused c.args.run.form fault.SessionFull) c.args.engine.now c.args.engine.now (g.W.Printer.contents c.args.output.now) (g.W.Printer.contents c.put_refused.new.output)
    c.in_err-put_refused.field-0.0 first step refl
    (stopped_wider P L ⊥ (refused c.args.run.form fault.SessionFull ∷ []) c.args.engine.now c.args.engine.now (g.W.Printer.contents c.args.output.now) (g.W.Printer.contents c.put_refused.new.output) c.in_err-put_refused.field-0.0 some
    (shown_stopped P L (refused c.args.run.form fault.SessionFull).text c.args.engine.now c.args.engine.now (g.W.Printer.contents c.args.output.now) (g.W.Printer.contents c.put_refused.new.output) c.in_err-put_refused.field-0.0
    (same P L c.args.engine.now) c.in_err-put_refused.ensures.err)))

pub returns-then-accepted-ge-MOST-clause-ok : goal.returns-then-accepted-ge-MOST-clause-ok
returns-then-accepted-ge-MOST-clause-ok g c =
    let P = g.E.Engine.promise in
    let L = g.met.E.Engine.laws in
    let step : command_step (run_of P c.args.run.form c.args.engine.now c.args.accepted.now) Slot ≡ refused c.args.run.form fault.SessionFull = search rules in
    let first : c.args.left ≡ suc (c.args.left - 1) = omega (arith, c.requires.left) in
    refused_slotted P c.args.run.form L (c.args.left - 1) c.args.accepted.now c.args.left (refused c.args.run.form fault.SessionFull) c.args.engine.now c.args.engine.now (g.W.Printer.contents c.args.output.now) (g.W.Printer.contents c.put_refused.new.output)
    first step refl
    (shown_carried P L (refused c.args.run.form fault.SessionFull).text c.args.engine.now c.args.engine.now (g.W.Printer.contents c.args.output.now) (g.W.Printer.contents c.put_refused.new.output) (same P L c.args.engine.now) (λ h. h)
    c.in_ok-put_refused.ensures.ok)

pub returns-in_err-put_replies-in-Ok-clause-err : goal.returns-in_err-put_replies-in-Ok-clause-err
returns-in_err-put_replies-in-Ok-clause-err g c =
    let P = g.E.Engine.promise in
    let is : c.from_residual-in_err-put_replies-in-Ok.result ≡ Err c.in_err-put_replies-in-Ok.field-0.0 = search rules in
    rw is (done_unwritten P c.args.run.form g.met.E.Engine.laws c.min-2.result c.args.accepted.now c.args.left c.args.run.batch c.args.engine.now c.slots.new.self (g.W.Printer.contents c.args.output.now) (g.W.Printer.contents c.put_replies.new.output)
    c.in-Ok.said.items c.in_err-put_replies-in-Ok.field-0.0 c.in-Ok.ensures.done (omega (arith, c.min.ensures, c.min-2.ensures)) (omega (arith, c.min.ensures, c.min-2.ensures))
    (omega (arith, c.min-2.ensures, c.if-accepted-ge-MOST.false)) (rw c.deref.ensures.value at c.in_err-put_replies-in-Ok.ensures.err))

pub returns-in_err-put_refused-in-Err-Refused-clause-err : goal.returns-in_err-put_refused-in-Err-Refused-clause-err
returns-in_err-put_refused-in-Err-Refused-clause-err g c =
    let P = g.E.Engine.promise in
    let L = g.met.E.Engine.laws in
    let is : c.from_residual-in_err-put_refused-in-Err-Refused.result ≡ Err c.in_err-put_refused-in-Err-Refused.field-0.0 = search rules in
    let (why, kept, settled) = rw c.in-Err-Refused.field-0-is at c.in-Err-Refused.ensures.not_done in
    let step : command_step (run_of P c.args.run.form c.args.engine.now c.args.accepted.now) Slot ≡ refused c.args.run.form (fault_of_machine c.in-Err-Refused.fault) = search rules in
    let first : c.args.left ≡ suc (c.args.left - 1) = omega (arith, c.requires.left) in
    let some : 1 ≤ c.args.run.batch = c.args.run.some in
    rw is (refused_unwritten P c.args.run.form L (c.args.left - 1) c.args.accepted.now c.args.left (refused c.args.run.form (fault_of_machine c.in-Err-Refused.fault)) c.args.engine.now c.slots.new.self (g.W.Printer.contents c.args.output.now)
    (g.W.Printer.contents c.put_refused-in-Err-Refused.new.output) c.in_err-put_refused-in-Err-Refused.field-0.0 first step refl
    (stopped_wider P L ⊥ (refused c.args.run.form (fault_of_machine c.in-Err-Refused.fault) ∷ []) c.args.engine.now c.slots.new.self (g.W.Printer.contents c.args.output.now) (g.W.Printer.contents c.put_refused-in-Err-Refused.new.output)
    c.in_err-put_refused-in-Err-Refused.field-0.0 some
    (shown_stopped P L (refused c.args.run.form (fault_of_machine c.in-Err-Refused.fault)).text c.args.engine.now c.slots.new.self (g.W.Printer.contents c.args.output.now)
    (g.W.Printer.contents c.put_refused-in-Err-Refused.new.output) c.in_err-put_refused-in-Err-Refused.field-0.0 kept (rw c.machine_fault-fault.ensures at c.in_err-put_refused-in-Err-Refused.ensures.err))))

pub returns-in_ok-put_replies-in-Ok-clause-ok : goal.returns-in_ok-put_replies-in-Ok-clause-ok
returns-in_ok-put_replies-in-Ok-clause-ok g c =
    let P = g.E.Engine.promise in
    done_slotted P c.args.run.form g.met.E.Engine.laws c.min-2.result c.args.accepted.now c.args.left c.len-ran.result c.args.engine.now c.slots.new.self (g.W.Printer.contents c.args.output.now) (g.W.Printer.contents c.put_replies.new.output)
    c.in-Ok.said.items c.in-Ok.ensures.done (omega (arith, c.min.ensures, c.min-2.ensures)) (omega (arith, c.min-2.ensures, c.if-accepted-ge-MOST.false)) (search rules) (rw c.deref.ensures.value at c.in_ok-put_replies-in-Ok.ensures.ok)

pub returns-in_ok-put_refused-in-Err-Refused-clause-ok : goal.returns-in_ok-put_refused-in-Err-Refused-clause-ok
returns-in_ok-put_refused-in-Err-Refused-clause-ok g c =
    let P = g.E.Engine.promise in
    let L = g.met.E.Engine.laws in
    let (why, kept, settled) = rw c.in-Err-Refused.field-0-is at c.in-Err-Refused.ensures.not_done in
    let step : command_step (run_of P c.args.run.form c.args.engine.now c.args.accepted.now) Slot ≡ refused c.args.run.form (fault_of_machine c.in-Err-Refused.fault) = search rules in
    let first : c.args.left ≡ suc (c.args.left - 1) = omega (arith, c.requires.left) in
    rw c.machine_fault-fault.ensures (refused_slotted P c.args.run.form L (c.args.left - 1) c.args.accepted.now c.args.left (refused c.args.run.form (fault_of_machine c.in-Err-Refused.fault)) c.args.engine.now c.slots.new.self (g.W.Printer.contents c.args.output.now)
    (g.W.Printer.contents c.put_refused-in-Err-Refused.new.output) first step refl
    (shown_carried P L (refused c.args.run.form (fault_of_machine c.in-Err-Refused.fault)).text c.args.engine.now c.slots.new.self (g.W.Printer.contents c.args.output.now)
    (g.W.Printer.contents c.put_refused-in-Err-Refused.new.output) kept settled (rw c.machine_fault-fault.ensures at c.in_ok-put_refused-in-Err-Refused.ensures.ok)))

pub returns-in-Err-Failed-clause-err : goal.returns-in-Err-Failed-clause-err
returns-in-Err-Failed-clause-err g c =
    let P = g.E.Engine.promise in
    let (why, left) = rw c.in-Err-Failed.field-0-is at c.in-Err-Failed.ensures.not_done in
    left_stopped P c.args.run.form g.met.E.Engine.laws c.min-2.result c.args.accepted.now c.args.left c.args.run.batch c.args.engine.now c.slots.new.self (g.W.Printer.contents c.args.output.now) c.in-Err-Failed.fault
    (omega (arith, c.min.ensures, c.min-2.ensures)) (omega (arith, c.min.ensures, c.min-2.ensures)) (omega (arith, c.min-2.ensures, c.if-accepted-ge-MOST.false)) why left

pub put_refused-requires : goal.put_refused-requires
put_refused-requires g c =
    let P = g.E.Engine.promise in
    let L = g.met.E.Engine.laws in
    let allows = g.W.Printer.allows in
    let was = g.W.Printer.contents c.args.output.now in
    let run = run_of P c.args.run.form c.args.engine.now c.args.accepted.now in
    let x : Step = refused c.args.run.form fault.SessionFull in
    let step : command_step (run_of P c.args.run.form c.args.engine.now c.args.accepted.now) Slot ≡ refused c.args.run.form fault.SessionFull = search rules in
    let first : c.args.left ≡ suc (c.args.left - 1) = omega (arith, c.requires.left) in
    record {
      allowed = may_show_text P L allows c.args.engine.now c.args.engine.now was x (refused_line c.args.run.form fault.SessionFull) []
          (subst (λ (l : List Step). MayPrint P allows c.args.engine.now was l) (refused_slot run (c.args.left - 1) c.args.left x first step refl) c.requires.may) refl (same P L c.args.engine.now).keeps;
    }

pub put_replies-requires : goal.put_replies-requires
put_replies-requires g c =
    let P = g.E.Engine.promise in
    let L = g.met.E.Engine.laws in
    let allows = g.W.Printer.allows in
    let was = g.W.Printer.contents c.args.output.now in
    let run = run_of P c.args.run.form c.args.engine.now c.args.accepted.now in
    let said = c.in-Ok.said.items in
    let done = c.in-Ok.ensures.done in
    let few = done.few in
    let n : ℕ = c.args.left - length said in
    let sum : c.args.left ≡ length said + n = omega (arith, few, c.min.ensures, c.min-2.ensures) in
    let steps : slot_steps run c.args.left ≡ ran_steps c.args.run.form said ++ slot_steps (moved run (slots_for said)) n =
    ap (slot_steps run) sum ∙ ran_all run said n done.answered (omega (arith, few, c.min.ensures, c.min-2.ensures, c.if-accepted-ge-MOST.false)) in
    record {
      may = rw c.deref.ensures.value (may_ran P L allows c.args.engine.now c.slots.new.self was c.args.run.form said (slot_steps run c.args.left) (slot_steps (moved run (slots_for said)) n) steps c.requires.may done.keeps (length_slots AnyJob said));
    }

pub put_refused-requires-in-Err-Refused : goal.put_refused-requires-in-Err-Refused
put_refused-requires-in-Err-Refused g c =
    let P = g.E.Engine.promise in
    let L = g.met.E.Engine.laws in
    let allows = g.W.Printer.allows in
    let was = g.W.Printer.contents c.args.output.now in
    let run = run_of P c.args.run.form c.args.engine.now c.args.accepted.now in
    let (why, kept, settled) = rw c.in-Err-Refused.field-0-is at c.in-Err-Refused.ensures.not_done in
    let x : Step = refused c.args.run.form (fault_of_machine c.in-Err-Refused.fault) in
    let step : command_step (run_of P c.args.run.form c.args.engine.now c.args.accepted.now) Slot ≡ refused c.args.run.form (fault_of_machine c.in-Err-Refused.fault) = search rules in
    let first : c.args.left ≡ suc (c.args.left - 1) = omega (arith, c.requires.left) in
    record {
      allowed = subst (λ (f : Fault). allows c.slots.new.self was (refused_line c.args.run.form f)) (sym c.machine_fault-fault.ensures)
          (may_show_text P L allows c.args.engine.now c.slots.new.self was x (refused_line c.args.run.form (fault_of_machine c.in-Err-Refused.fault)) []
          (subst (λ (l : List Step). MayPrint P allows c.args.engine.now was l) (refused_slot run (c.args.left - 1) c.args.left x first step refl) c.requires.may) refl kept.keeps);
    }
