use Rattle.std.proofs.Common.{◌+◌, ◌∙◌, drop, sym, ap, subst}
use Rattle.pfx_machine.specs.Outcome.{outcome}
use Rattle.pfx_machine.specs.Sessions.{IsAcceptable}
use Rattle.pfx_machine.proofs.Compose.{outcome-none}
use Rattle.pfx_replay.specs.Stated.{plain_of}
use Rattle.pfx_replay.proofs.Sessions.{acceptable-cons, acceptable-first, acceptable-rest, drop_all, drop_at, outcome-cons}
use Rattle.pfx_replay.proofs.folding.plain_state.Goals as goal

pub returns-in-None : goal.returns-in-None
returns-in-None g c h =
    let K = g.J.Job.kind in
    let s = plain_of c.loop-command.reached in
    let x = c.command-item.result in
    let i = c.loop-command.command-index in
    let commands = c.args.commands.now in
    let refused = rw c.in-None.is at c.in_ok-next.ensures in
    refused (acceptable-first K g.met.J.Job.laws s x (drop (i + 1) commands) (subst (λ l. IsAcceptable K s l) (drop_at commands i x x c.command-item.is c.loop-command-test.true) (c.loop-command.invariant.back h)))

pub loop-command-preserved : goal.loop-command-preserved
loop-command-preserved g c =
    let K = g.J.Job.kind in
    let L = g.met.J.Job.laws in
    let s = plain_of c.loop-command.reached in
    let x = c.command-item.result in
    let i = c.loop-command.command-index in
    let commands = c.args.commands.now in
    let rest = drop (i + 1) commands in
    let split = drop_at commands i x x c.command-item.is c.loop-command-test.true in
    let went = rw c.in-Some.is at c.in_ok-next.ensures in
    record {
      on = λ h. c.loop-command.invariant.on (subst (λ l. IsAcceptable K s l) (sym split) (acceptable-cons K L s x rest went.0 (subst (λ t. IsAcceptable K t rest) went.1 h)));
      back = λ h. subst (λ t. IsAcceptable K t rest) (sym went.1) (acceptable-rest K L s x rest (subst (λ l. IsAcceptable K s l) split (c.loop-command.invariant.back h)));
      outcome = ap (λ t. outcome K t rest) went.1 ∙ outcome-cons K L s x rest ∙ ap (outcome K s) (sym split) ∙ c.loop-command.invariant.outcome;
    }

pub returns : goal.returns
returns g c =
    let K = g.J.Job.kind in
    let s = plain_of c.loop-command.reached in
    let commands = c.args.commands.now in
    let none = drop_all commands c.loop-command.command-index c.loop-command-test.false in
    (c.loop-command.invariant.on (subst (λ l. IsAcceptable K s l) (sym none) tt), sym (outcome-none K s) ∙ ap (outcome K s) (sym none) ∙ c.loop-command.invariant.outcome)
