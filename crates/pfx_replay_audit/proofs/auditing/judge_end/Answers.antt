use Rattle.std.proofs.Common.{sym, subst, Ok}
use Rattle.std.specs.Option.{option_copied}
use Rattle.pfx_replay.specs.declared.verdict.Verdict.TheVariants.{Agrees}
use Rattle.pfx_replay_audit.specs.Audits.{FileAnswer}
use Rattle.pfx_replay_audit.specs.Watches.{Told}
use Rattle.pfx_replay_audit.proofs.Telling.{told_none}
use Rattle.pfx_replay_audit.proofs.auditing.judge_end.Goals as goal

pub returns-in-None : goal.returns-in-None
returns-in-None g c =
    let K = g.J.Job.kind in
    let w = c.args.watch.now in
    let told = Told K g.W.Watch.sees w w in
    subst (λ o. FileAnswer K g.J.Units.unit told (option_copied o) c.args.from.now (Ok (Agrees c.number.result))) (sym c.in-None.is)
    (c.number.ensures.number, told_none K g.met.J.Job.laws g.W.Watch.sees w c.args.from.now)
