use Rattle.std.proofs.Common.{sym, subst}
use Rattle.pfx_front_engine.proofs.Answering.{answered_as, unanswered}
use Rattle.pfx_front_engine.proofs.Notes.{kept_answered, kept_later}
use Rattle.pfx_front_engine.specs.Asking.{IsAnswered, IsUnanswered}
use Rattle.pfx_front_engine.proofs.asking.ask.Goals as goal

pub invariant_of-client : goal.invariant_of-client
invariant_of-client g c =
    let B = g.B.Named.start in
    let alone = c.ask_alone.ensures.alone in
    let a = answered_as g.J.Job.kind B c.args.command c.client.inside.pass c.ask_alone.new.pass c.in-Ok.number c.in-Ok.reply c.in-Ok.ensures.ok.0 alone in
    kept_answered g.J.Job.kind B c.client.inside.pass.1 c.ask_alone.new.pass.1 c.client.inside.number c.client.inside.kept c.client.invariant c.args.command c.in-Ok.number c.in-Ok.reply alone a

pub invariant_of-client-in-Err : goal.invariant_of-client-in-Err
invariant_of-client-in-Err g c =
    let B = g.B.Named.start in
    let alone = c.ask_alone.ensures.alone in
    let lost = c.in-Err.ensures.err in
    let u = unanswered g.J.Job.kind B c.args.command c.client.inside.pass c.ask_alone.new.pass c.in-Err.fault lost alone in
    kept_later g.J.Job.kind B c.client.inside.pass.1 c.ask_alone.new.pass.1 c.client.inside.number c.client.inside.kept c.client.invariant alone u.stays u.known

pub returns-in-Ok-clause-ok : goal.returns-in-Ok-clause-ok
returns-in-Ok-clause-ok g c =
    let B = g.B.Named.start in
    let alone = c.ask_alone.ensures.alone in
    subst (λ was. IsAnswered g.J.Job.kind B was c.args.command c.in-Ok.number c.in-Ok.reply c.ask_alone.new.pass.1) c.client.view_is
    (answered_as g.J.Job.kind B c.args.command c.client.inside.pass c.ask_alone.new.pass c.in-Ok.number c.in-Ok.reply c.in-Ok.ensures.ok.0 alone)

pub returns-in-Err-clause-err : goal.returns-in-Err-clause-err
returns-in-Err-clause-err g c =
    let B = g.B.Named.start in
    let alone = c.ask_alone.ensures.alone in
    let lost = c.in-Err.ensures.err in
    let u = unanswered g.J.Job.kind B c.args.command c.client.inside.pass c.ask_alone.new.pass c.in-Err.fault lost alone in
    subst (λ was. IsUnanswered g.J.Job.kind B was c.args.command c.ask_alone.new.pass.1 c.why.result) c.client.view_is
    (subst (λ why. IsUnanswered g.J.Job.kind B c.client.inside.pass.1 c.args.command c.ask_alone.new.pass.1 why) (sym c.why.ensures) u)
