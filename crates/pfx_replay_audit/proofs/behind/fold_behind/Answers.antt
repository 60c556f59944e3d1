use Rattle.std.proofs.Common.{◌-◌, ◌∙◌, length, drop, map, ap, subst, arith}
use Rattle.std.proofs.lemmas.List.{length-drop, length-map, take_all}
use Rattle.pfx_record.specs.Records.{plain}
use Rattle.pfx_replay.specs.Stated.{plain_of}
use Rattle.pfx_replay_audit.specs.Behind.{JudgedBehind}
use Rattle.pfx_replay_audit.specs.Watches.{Told}
use Rattle.pfx_replay_audit.proofs.Ending.{behind_by, dropped}
use Rattle.pfx_replay_audit.proofs.behind.fold_behind.Goals as goal

pub returns : goal.returns
returns g c =
    let records = c.args.records.now in
    let last = c.number-last.result in
    let number = c.number-last.ensures.number in
    let begin = c.args.begin in
    let high = c.if-passed-records.false in
    let low = c.if-last-begin.false in
    let told = Told g.J.Job.kind g.W.Watch.sees c.args.watch.now c.judge_behind.new.watch in
    behind_by g.J.Job.kind g.J.Units.unit (map plain_of c.args.marks.now) told c.args.from.now begin (map plain records)
    (omega (arith, low, number)) (omega (arith, high, low, number, length-map records plain)) c.judge_behind.result
    (subst (λ l. JudgedBehind g.J.Job.kind g.J.Units.unit (map plain_of c.args.marks.now) told c.args.from.now l c.judge_behind.result) (ap (map plain) (take_all (length records - (last - begin)) (drop (last - begin) records) (omega (arith, length-drop (last - begin) records))) ∙ dropped plain (last - begin) records ∙ ap (λ n. drop (n - begin) (map plain records)) number) c.judge_behind.ensures)
