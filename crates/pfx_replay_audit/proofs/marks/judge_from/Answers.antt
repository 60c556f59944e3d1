use Rattle.std.proofs.Common.{◌≡◌, IfOk, Some, map, subst, sym}
use Rattle.std.proofs.lemmas.Result.{IfOk-weaker}
use Rattle.pfx_machine.specs.Plain.{IsState}
use Rattle.pfx_record.specs.Records.{plain}
use Rattle.pfx_record_redo.specs.Applying.{applied}
use Rattle.pfx_replay.specs.Stated.{plain_of}
use Rattle.pfx_replay_audit.specs.Marks.{Gives}
use Rattle.pfx_replay_audit.proofs.marks.judge_from.Goals as goal

pub judge_marked-requires : goal.judge_marked-requires
judge_marked-requires g c =
    let records = map plain c.args.records.now in
    (c.requires.0, subst (λ s. applied g.J.Job.kind s records ≡ Some c.requires.0) (sym c.in_ok-plain.ensures) c.requires.1)

pub returns-clause-gives : goal.returns-clause-gives
returns-clause-gives g c =
    let marks = map plain_of c.args.marks.now in
    let records = map plain c.args.records.now in
    subst (λ s. IfOk c.judge_marked.result (Gives g.J.Job.kind g.J.Units.unit marks s records)) c.in_ok-plain.ensures c.judge_marked.ensures

pub returns-clause-state : goal.returns-clause-state
returns-clause-state g c = IfOk-weaker c.judge_marked.result _ (λ judged. IsState c.args.from.now) (λ judged gives. subst (λ t. IsState t) c.in_ok-plain.ensures c.in_ok-plain.plain.kept) c.judge_marked.ensures
