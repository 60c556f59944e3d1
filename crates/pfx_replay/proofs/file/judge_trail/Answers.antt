use Rattle.std.proofs.Common.{map, subst}
use Rattle.pfx_record.specs.Records.{plain}
use Rattle.pfx_replay.specs.Verdicts.{IsVerdict}
use Rattle.pfx_replay.specs.Stated.{plain_of}
use Rattle.pfx_replay.proofs.file.judge_trail.Goals as goal

pub returns-in_default : goal.returns-in_default
returns-in_default g c t u led on = (rw c.in_default.is at c.in_ok-first.ensures) t led

pub returns-in_default-2 : goal.returns-in_default-2
returns-in_default-2 g c t u led on = (rw c.in_default-2.is at c.in_ok-checkpoint.ensures) u on

pub judge_history-requires-clause-before : goal.judge_history-requires-clause-before
judge_history-requires-clause-before g c = (let first = rw c.in-Some.is at c.in_ok-first.ensures in first.1)

pub judge_history-requires-clause-behind : goal.judge_history-requires-clause-behind
judge_history-requires-clause-behind g c = (let checkpoint = rw c.in-Some-2.is at c.in_ok-checkpoint.ensures in checkpoint.1)

pub returns : goal.returns
returns g c =
    let K = g.J.Job.kind in
    let unit = g.J.Units.unit in
    let before = map plain c.args.before.now in
    let behind = map plain c.args.behind.now in
    let verdict = c.in_ok-verdict.verdict in
    let first = rw c.in-Some.is at c.in_ok-first.ensures in
    let checkpoint = rw c.in-Some-2.is at c.in_ok-checkpoint.ensures in
    subst (λ s. IsVerdict K unit (record { start = s; before = before; checkpoint = c.args.base.now; behind = behind }) verdict) first.0
    (subst (λ t. IsVerdict K unit (record { start = plain_of c.in-Some.first; before = before; checkpoint = t; behind = behind }) verdict) checkpoint.0 c.in_ok-verdict.ensures)
