use Rattle.std.proofs.Common.{sym, subst}
use Rattle.pfx_front.specs.Calling.{HasNoReply, IsRefusedBy}
use Rattle.pfx_front.proofs.Losses.{no_answer}
use Rattle.pfx_front.proofs.calls.ask_of.Goals as goal

pub returns-in-Err-clause-err : goal.returns-in-Err-clause-err
returns-in-Err-clause-err g c =
    let old = c.args.pass.now in
    subst (HasNoReply c.args.command old c.ask.new.pass) (sym c.told_of.ensures)
    (no_answer g.J.Job.kind c.args.command c.args.book.now c.ask.new.self old c.ask.new.pass c.in-Err.fault c.in-Err.ensures.err).1

pub returns-in-Err-clause-refused : goal.returns-in-Err-clause-refused
returns-in-Err-clause-refused g c =
    let K = g.J.Job.kind in
    let old = c.args.pass.now in
    subst (IsRefusedBy K c.args.command c.args.book.now c.ask.new.self old c.ask.new.pass) (sym c.told_of.ensures)
    (no_answer K c.args.command c.args.book.now c.ask.new.self old c.ask.new.pass c.in-Err.fault c.in-Err.ensures.err).0
