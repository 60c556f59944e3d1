use Rattle.std.proofs.Common.{rules, ◌≡◌, Err, List, ℕ, subst, sym, refl, []}
use Rattle.std.specs.Io.KnownBytes.{Appends}
use Rattle.pfx_program.specs.Answers.{closed_line}
use Rattle.pfx_program.specs.Script.{shown}
use Rattle.pfx_program.specs.Running.{LineFails}
use Rattle.pfx_program.proofs.StepLemmas.{shown_carried, shown_stopped, unmade, failed_same}
use Rattle.pfx_program.proofs.PrintLemmas.{may_show_text}
use Rattle.pfx_program.proofs.scripts.close.Goals as goal

pub returns-in_err-last-clause-err : goal.returns-in_err-last-clause-err
returns-in_err-last-clause-err g c =
    let P = g.E.Engine.promise in
    let is : c.from_residual.result ≡ Err c.in_err-last.field-0.0 = search rules in
    rw is (failed_same P g.met.E.Engine.laws (shown (closed_line c.args.form (P.state c.args.engine.now).number)) c.args.engine.now c.settled.new.self (g.W.Printer.contents c.args.output.now) c.in_err-last.field-0.0
    c.in_err-last.ensures.fails c.settled.ensures.same)

pub returns-in_ok-put_text-in-Ok-clause-ok : goal.returns-in_ok-put_text-in-Ok-clause-ok
returns-in_ok-put_text-in-Ok-clause-ok g c =
    let P = g.E.Engine.promise in
    let text : c.as_str.result.now ≡ closed_line c.args.form (P.state c.args.engine.now).number = search rules in
    shown_carried P g.met.E.Engine.laws (closed_line c.args.form (P.state c.args.engine.now).number) c.args.engine.now c.settled.new.self (g.W.Printer.contents c.args.output.now) (g.W.Printer.contents c.put_text.new.output) c.settled.ensures.same
    (λ h. c.in_ok-last.ensures.settled) (subst (λ (t : List ℕ). Appends (g.W.Printer.contents c.args.output.now) (g.W.Printer.contents c.put_text.new.output) t) text c.in_ok-put_text-in-Ok.ensures.ok)

pub returns-in_err-put_text-in-Ok-clause-err : goal.returns-in_err-put_text-in-Ok-clause-err
returns-in_err-put_text-in-Ok-clause-err g c =
    let P = g.E.Engine.promise in
    let is : c.from_residual-in_err-put_text-in-Ok.result ≡ Err c.in_err-put_text-in-Ok.field-0.0 = search rules in
    let text : c.as_str.result.now ≡ closed_line c.args.form (P.state c.args.engine.now).number = search rules in
    rw is (shown_stopped P g.met.E.Engine.laws (closed_line c.args.form (P.state c.args.engine.now).number) c.args.engine.now c.settled.new.self (g.W.Printer.contents c.args.output.now) (g.W.Printer.contents c.put_text.new.output)
    c.in_err-put_text-in-Ok.field-0.0 c.settled.ensures.same
    (subst (λ (t : List ℕ). LineFails t (g.W.Printer.contents c.args.output.now) (g.W.Printer.contents c.put_text.new.output) c.in_err-put_text-in-Ok.field-0.0) text c.in_err-put_text-in-Ok.ensures.err))

pub returns-in-Err-clause-err : goal.returns-in-Err-clause-err
returns-in-Err-clause-err g c =
    let P = g.E.Engine.promise in
    unmade P g.met.E.Engine.laws (closed_line c.args.form (P.state c.args.engine.now).number) c.args.engine.now c.settled.new.self (g.W.Printer.contents c.args.output.now) c.settled.ensures.same

pub put_text-requires : goal.put_text-requires
put_text-requires g c =
    let P = g.E.Engine.promise in
    let L = g.met.E.Engine.laws in
    let allows = g.W.Printer.allows in
    let was = g.W.Printer.contents c.args.output.now in
    let text : c.as_str.result.now ≡ closed_line c.args.form (P.state c.args.engine.now).number = search rules in
    record {
      allowed = subst (λ (t : List ℕ). allows c.settled.new.self was t) (sym text)
          (may_show_text P L allows c.args.engine.now c.settled.new.self was (shown (closed_line c.args.form (P.state c.args.engine.now).number)) (closed_line c.args.form (P.state c.args.engine.now).number) [] c.requires.may refl c.settled.ensures.same.keeps);
    }
