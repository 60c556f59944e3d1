use Rattle.std.proofs.Common.{ap, map}
use Rattle.pfx_machine.specs.Plain.{Plain}
use Rattle.pfx_record.specs.Records.{plain}
use Rattle.pfx_replay_audit.proofs.Telling.{told_one}
use Rattle.pfx_replay_audit.proofs.behind.judge_behind.Goals as goal

pub returns-then-not-branch : goal.returns-then-not-branch
returns-then-not-branch g c = c.in_ok-are_right.ensures.wrong c.if-not-branch.true

pub judge_from-requires : goal.judge_from-requires
judge_from-requires g c = c.in_ok-are_right.ensures.taken c.if-not-branch.false

pub returns-in_ok-see-in-Agrees : goal.returns-in_ok-see-in-Agrees
returns-in_ok-see-in-Agrees g c =
    let judged = rw c.in-Agrees.is at c.in_ok-last.ensures.gives in (
      judged.0,
      ap (λ (s : Plain _). s.number) judged.1,
      told_one g.J.Job.kind g.met.J.Job.laws g.W.Watch.sees c.args.watch.now c.see.new.self c.args.from.now (map plain c.args.records.now) c.in_ok-see-in-Agrees.ensures,
    )
