use Rattle.std.proofs.Common.{sym, subst}
use Rattle.pfx_machine.specs.declared.command.Command.TheVariants.{Slot}
use Rattle.pfx_front.specs.Calling.{HasNoReply}
use Rattle.pfx_front.proofs.Losses.{no_answer}
use Rattle.pfx_front.proofs.calls.open_of.Goals as goal

pub returns-in-Err-clause-err : goal.returns-in-Err-clause-err
returns-in-Err-clause-err g c =
    let old = c.args.pass.now in
    subst (λ new. HasNoReply Slot old new c.told_of.result) (sym c.is_sole_in-sole.ensures.same.1)
    (subst (HasNoReply Slot old c.open.new.pass) (sym c.told_of.ensures)
    (no_answer g.J.Job.kind Slot c.args.book.now c.open.new.self old c.open.new.pass c.in-Err.fault c.in-Err.ensures.err).1)
