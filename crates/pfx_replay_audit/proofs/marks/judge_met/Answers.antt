use Rattle.std.proofs.Common.{◌∷◌, map, IsTrue, rules}
use Rattle.pfx_record.specs.Records.{plain}
use Rattle.pfx_replay.specs.Stated.{plain_of}
use Rattle.pfx_replay_audit.specs.Marks.{Meets}
use Rattle.pfx_replay_audit.proofs.Marking.{judged_met, unmet}
use Rattle.pfx_replay_audit.proofs.marks.judge_met.Goals as goal

pub returns-then-not-meets : goal.returns-then-not-meets
returns-then-not-meets g c rest =
    let s = plain_of c.args.state in
    let marks = map plain_of c.args.marks.now in
    let no : Meets marks s → ⊥ = λ h. (let yes = c.meets.ensures.1 h in search rules) in
    unmet g.J.Job.kind g.met.J.Job.laws g.J.Units.unit marks s (plain c.args.entry.now ∷ rest) no

pub returns : goal.returns
returns g c =
    let s = plain_of c.args.state in
    let marks = map plain_of c.args.marks.now in
    let yes : IsTrue c.meets.result = search rules in
    judged_met g.J.Job.kind g.met.J.Job.laws g.J.Units.unit marks s (plain c.args.entry.now) c.judge_one.result (c.meets.ensures.0 yes) c.judge_one.ensures
