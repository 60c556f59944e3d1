use Rattle.std.proofs.Common.{None, rules, ◌≡◌, Err, List, ℕ, OnOk, IfErr, subst, sym, refl, []}
use Rattle.std.specs.Io.KnownBytes.{Appends}
use Rattle.pfx_program.specs.Answers.{settled_line}
use Rattle.pfx_program.specs.Script.{shown}
use Rattle.pfx_program.specs.Running.{LineFails}
use Rattle.pfx_program.proofs.StepLemmas.{if_carried, if_stopped, unmade, failed_same}
use Rattle.pfx_program.proofs.PrintLemmas.{may_show_text}
use Rattle.pfx_program.proofs.scripts.run_settle.Goals as goal

pub returns-in_err-number-clause-err : goal.returns-in_err-number-clause-err
returns-in_err-number-clause-err g c =
    let P = g.E.Engine.promise in
    let is : c.from_residual.result ≡ Err c.in_err-number.field-0.0 = search rules in
    rw is (failed_same P g.met.E.Engine.laws (shown (settled_line c.args.form (P.state c.args.engine.now).number)) c.args.engine.now c.settled.new.self (g.W.Printer.contents c.args.output.now) c.in_err-number.field-0.0
    c.in_err-number.ensures.fails c.settled.ensures.same)

pub returns-in-Ok-clause-ok : goal.returns-in-Ok-clause-ok
returns-in-Ok-clause-ok g c =
    let P = g.E.Engine.promise in
    let text : c.as_str.result.now ≡ settled_line c.args.form (P.state c.args.engine.now).number = search rules in
    if_carried P g.met.E.Engine.laws None (settled_line c.args.form (P.state c.args.engine.now).number) c.args.engine.now c.settled.new.self (g.W.Printer.contents c.args.output.now) (g.W.Printer.contents c.put_text.new.output) c.put_text.result c.settled.ensures.same
    (λ h. c.in_ok-number.ensures.settled) (subst (λ (t : List ℕ). OnOk c.put_text.result (Appends (g.W.Printer.contents c.args.output.now) (g.W.Printer.contents c.put_text.new.output) t)) text c.put_text.ensures.ok)

pub returns-in-Ok-clause-err : goal.returns-in-Ok-clause-err
returns-in-Ok-clause-err g c =
    let P = g.E.Engine.promise in
    let text : c.as_str.result.now ≡ settled_line c.args.form (P.state c.args.engine.now).number = search rules in
    if_stopped P g.met.E.Engine.laws None (settled_line c.args.form (P.state c.args.engine.now).number) c.args.engine.now c.settled.new.self (g.W.Printer.contents c.args.output.now) (g.W.Printer.contents c.put_text.new.output) c.put_text.result c.settled.ensures.same
    (subst (λ (t : List ℕ). IfErr c.put_text.result (LineFails t (g.W.Printer.contents c.args.output.now) (g.W.Printer.contents c.put_text.new.output))) text c.put_text.ensures.err)

pub returns-in-Err-clause-err : goal.returns-in-Err-clause-err
returns-in-Err-clause-err g c =
    let P = g.E.Engine.promise in
    unmade P g.met.E.Engine.laws (settled_line c.args.form (P.state c.args.engine.now).number) c.args.engine.now c.settled.new.self (g.W.Printer.contents c.args.output.now) c.settled.ensures.same

pub put_text-requires : goal.put_text-requires
put_text-requires g c =
    let P = g.E.Engine.promise in
    let L = g.met.E.Engine.laws in
    let allows = g.W.Printer.allows in
    let was = g.W.Printer.contents c.args.output.now in
    let text : c.as_str.result.now ≡ settled_line c.args.form (P.state c.args.engine.now).number = search rules in
    record {
      allowed = subst (λ (t : List ℕ). allows c.settled.new.self was t) (sym text)
          (may_show_text P L allows c.args.engine.now c.settled.new.self was (shown (settled_line c.args.form (P.state c.args.engine.now).number)) (settled_line c.args.form (P.state c.args.engine.now).number) [] c.requires.may refl c.settled.ensures.same.keeps);
    }
