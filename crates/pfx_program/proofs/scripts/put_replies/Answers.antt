use Rattle.std.proofs.Common.{rules, ◌≡◌, Err, take, drop, ◌+◌}
use Rattle.pfx_program.proofs.SlotLemmas.{lines_fail, lines_more}
use Rattle.pfx_program.proofs.PrintLemmas.{next_split}
use Rattle.pfx_program.proofs.scripts.put_replies.Goals as goal

pub returns-in_err-put_reply-clause-err : goal.returns-in_err-put_reply-clause-err
returns-in_err-put_reply-clause-err g c =
    let is : c.from_residual.result ≡ Err c.in_err-put_reply.field-0.0 = search rules in
    rw is (lines_fail c.args.form c.args.said.now c.loop-entry.entry-index c.entry-item.result (g.W.Printer.contents c.args.output.now) (g.W.Printer.contents c.loop-entry.output) (g.W.Printer.contents c.put_reply.new.output)
    c.in_err-put_reply.field-0.0 c.loop-entry-test.true c.entry-item.is c.loop-entry.invariant c.in_err-put_reply.ensures.err)

pub loop-entry-preserved : goal.loop-entry-preserved
loop-entry-preserved g c =
    lines_more c.args.form c.args.said.now c.loop-entry.entry-index c.entry-item.result (g.W.Printer.contents c.args.output.now) (g.W.Printer.contents c.loop-entry.output) (g.W.Printer.contents c.put_reply.new.output)
    c.loop-entry-test.true c.entry-item.is c.loop-entry.invariant c.in_ok-put_reply.ensures.ok

pub put_reply-requires : goal.put_reply-requires
put_reply-requires g c =
    let said = c.args.said.now in
    let i = c.loop-entry.entry-index in
    let x = c.entry-item.result in
    record {
      allowed = c.requires.may (take i said) x (drop (i + 1) said) (next_split said i x c.loop-entry-test.true c.entry-item.is) (g.W.Printer.contents c.loop-entry.output) c.loop-entry.invariant;
    }
