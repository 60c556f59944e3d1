use Rattle.std.proofs.Common.{◌∙◌, ap, map}
use Rattle.pfx_machine.specs.Plain.{Plain}
use Rattle.pfx_record.specs.Records.{plain}
use Rattle.pfx_replay.specs.Stated.{plain_of}
use Rattle.pfx_replay.proofs.Following.{first_then, follow_number}
use Rattle.pfx_replay.proofs.history.judge_history.Goals as goal

pub returns-in-Agrees : goal.returns-in-Agrees
returns-in-Agrees g c =
    let K = g.J.Job.kind in
    let leads = rw c.in_default.is at (c.in_ok-verdict.ensures (map plain c.args.behind.now)) in
    let then = rw c.in-Agrees.is at c.in_ok-last.ensures in
    let number = ap (λ (s : Plain _). s.number) then.1 ∙ follow_number K g.met.J.Job.laws g.J.Units.unit (plain_of c.args.checkpoint) (map plain c.args.behind.now) c.args.checkpoint.kept then.0 in
    (leads, then.0, number)

pub returns-in-Some : goal.returns-in-Some
returns-in-Some g c = rw c.in-Some.is at (c.in_ok-verdict.ensures (map plain c.args.behind.now))

pub returns-in-Differs : goal.returns-in-Differs
returns-in-Differs g c =
    let leads = rw c.in_default.is at (c.in_ok-verdict.ensures (map plain c.args.behind.now)) in
    let then = rw c.in-Differs.is at c.in_ok-last.ensures in
    first_then g.J.Job.kind g.J.Units.unit _ leads c.in-Differs.what c.in-Differs.number then
