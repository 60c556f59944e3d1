use Rattle.std.proofs.Common.{rules, ◌≡◌, ◌<◌, Err, arith, List, subst}
use Rattle.pfx_program.specs.Script.{slot_steps, Step}
use Rattle.pfx_program.specs.Running.{run_of}
use Rattle.pfx_program.proofs.SlotLemmas.{slots_start, batch_goes, batch_ends, batch_fails, slots_over}
use Rattle.pfx_program.proofs.PrintLemmas.{may_more}
use Rattle.pfx_program.specs.Printing.{MayPrint}
use Rattle.pfx_program.proofs.scripts.run_slots.Goals as goal

pub loop-left-init : goal.loop-left-init
loop-left-init g c = slots_start g.E.Engine.promise c.args.run.form g.met.E.Engine.laws c.args.engine.now c.args.accepted.now c.args.count (g.W.Printer.contents c.args.output.now)

pub returns-in_err-ran-clause-err : goal.returns-in_err-ran-clause-err
returns-in_err-ran-clause-err g c =
    let P = g.E.Engine.promise in
    let is : c.from_residual.result ≡ Err c.in_err-ran.field-0.0 = search rules in
    rw is (batch_fails P c.args.run.form g.met.E.Engine.laws (slot_steps (run_of P c.args.run.form c.args.engine.now c.args.accepted.now) c.args.count) c.args.engine.now c.loop-left.engine c.run_batch.new.engine c.args.accepted.now c.loop-left.accepted
    c.loop-left.left (g.W.Printer.contents c.args.output.now) (g.W.Printer.contents c.loop-left.output) (g.W.Printer.contents c.run_batch.new.output) c.in_err-ran.field-0.0 c.loop-left.invariant c.in_err-ran.ensures.err)

pub returns-then-ran-eq0-clause-ok : goal.returns-then-ran-eq0-clause-ok
returns-then-ran-eq0-clause-ok g c =
    let P = g.E.Engine.promise in
    let none : c.in_ok-ran.ran ≡ 0 = search rules in
    (batch_ends P c.args.run.form g.met.E.Engine.laws (slot_steps (run_of P c.args.run.form c.args.engine.now c.args.accepted.now) c.args.count) c.args.engine.now c.loop-left.engine c.run_batch.new.engine c.args.accepted.now c.loop-left.accepted
    c.run_batch.new.accepted c.loop-left.left c.in_ok-ran.ran c.in_ok-ran.why (g.W.Printer.contents c.args.output.now) (g.W.Printer.contents c.loop-left.output) (g.W.Printer.contents c.run_batch.new.output) c.loop-left.invariant
    c.in_ok-ran.ensures.ok none c.in_ok-ran.ensures.counts).0

pub returns-then-ran-eq0-clause-counts : goal.returns-then-ran-eq0-clause-counts
returns-then-ran-eq0-clause-counts g c =
    let P = g.E.Engine.promise in
    let none : c.in_ok-ran.ran ≡ 0 = search rules in
    (batch_ends P c.args.run.form g.met.E.Engine.laws (slot_steps (run_of P c.args.run.form c.args.engine.now c.args.accepted.now) c.args.count) c.args.engine.now c.loop-left.engine c.run_batch.new.engine c.args.accepted.now c.loop-left.accepted
    c.run_batch.new.accepted c.loop-left.left c.in_ok-ran.ran c.in_ok-ran.why (g.W.Printer.contents c.args.output.now) (g.W.Printer.contents c.loop-left.output) (g.W.Printer.contents c.run_batch.new.output) c.loop-left.invariant
    c.in_ok-ran.ensures.ok none c.in_ok-ran.ensures.counts).1

pub returns-then-ran-eq0-clause-told : goal.returns-then-ran-eq0-clause-told
returns-then-ran-eq0-clause-told g c =
    let P = g.E.Engine.promise in
    let none : c.in_ok-ran.ran ≡ 0 = search rules in
    (batch_ends P c.args.run.form g.met.E.Engine.laws (slot_steps (run_of P c.args.run.form c.args.engine.now c.args.accepted.now) c.args.count) c.args.engine.now c.loop-left.engine c.run_batch.new.engine c.args.accepted.now c.loop-left.accepted
    c.run_batch.new.accepted c.loop-left.left c.in_ok-ran.ran c.in_ok-ran.why (g.W.Printer.contents c.args.output.now) (g.W.Printer.contents c.loop-left.output) (g.W.Printer.contents c.run_batch.new.output) c.loop-left.invariant
    c.in_ok-ran.ensures.ok none c.in_ok-ran.ensures.counts).2

pub loop-left-preserved : goal.loop-left-preserved
loop-left-preserved g c =
    let P = g.E.Engine.promise in
    let some : 0 < c.in_ok-ran.ran = search rules in
    batch_goes P c.args.run.form g.met.E.Engine.laws (slot_steps (run_of P c.args.run.form c.args.engine.now c.args.accepted.now) c.args.count) c.args.engine.now c.loop-left.engine c.run_batch.new.engine c.args.accepted.now c.loop-left.accepted
    c.run_batch.new.accepted c.loop-left.left c.in_ok-ran.ran c.in_ok-ran.why (g.W.Printer.contents c.args.output.now) (g.W.Printer.contents c.loop-left.output) (g.W.Printer.contents c.run_batch.new.output) c.loop-left.invariant
    c.in_ok-ran.ensures.ok some c.in_ok-ran.ensures.counts

pub returns-clause-ok : goal.returns-clause-ok
returns-clause-ok g c =
    let P = g.E.Engine.promise in
    (slots_over P c.args.run.form g.met.E.Engine.laws (slot_steps (run_of P c.args.run.form c.args.engine.now c.args.accepted.now) c.args.count) c.args.engine.now c.loop-left.engine c.args.accepted.now c.loop-left.accepted c.loop-left.left
    (g.W.Printer.contents c.args.output.now) (g.W.Printer.contents c.loop-left.output) (omega (arith, c.loop-left-test.false)) c.loop-left.invariant).0

pub returns-clause-counts : goal.returns-clause-counts
returns-clause-counts g c =
    let P = g.E.Engine.promise in
    (slots_over P c.args.run.form g.met.E.Engine.laws (slot_steps (run_of P c.args.run.form c.args.engine.now c.args.accepted.now) c.args.count) c.args.engine.now c.loop-left.engine c.args.accepted.now c.loop-left.accepted c.loop-left.left
    (g.W.Printer.contents c.args.output.now) (g.W.Printer.contents c.loop-left.output) (omega (arith, c.loop-left-test.false)) c.loop-left.invariant).1

pub returns-clause-told : goal.returns-clause-told
returns-clause-told g c =
    let P = g.E.Engine.promise in
    (slots_over P c.args.run.form g.met.E.Engine.laws (slot_steps (run_of P c.args.run.form c.args.engine.now c.args.accepted.now) c.args.count) c.args.engine.now c.loop-left.engine c.args.accepted.now c.loop-left.accepted c.loop-left.left
    (g.W.Printer.contents c.args.output.now) (g.W.Printer.contents c.loop-left.output) (omega (arith, c.loop-left-test.false)) c.loop-left.invariant).2

pub run_batch-requires-clause-may : goal.run_batch-requires-clause-may
run_batch-requires-clause-may g c =
    let P = g.E.Engine.promise in
    let L = g.met.E.Engine.laws in
    let allows = g.W.Printer.allows in
    let was = g.W.Printer.contents c.args.output.now in
    let h = c.loop-left.invariant in
    may_more P L allows h.steps (slot_steps (run_of P c.args.run.form c.loop-left.engine c.loop-left.accepted) c.loop-left.left) c.args.engine.now c.loop-left.engine was (g.W.Printer.contents c.loop-left.output) h.carried
    (subst (λ (l : List Step). MayPrint P allows c.args.engine.now was l) h.same c.requires.may)
