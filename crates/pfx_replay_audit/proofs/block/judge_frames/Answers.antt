use Rattle.std.proofs.Common.{◌∙◌, map, ap, subst}
use Rattle.pfx_record.specs.Records.{plain}
use Rattle.pfx_record_redo.specs.Applying.{applied}
use Rattle.pfx_replay.specs.Stated.{plain_of}
use Rattle.pfx_replay.specs.declared.judged.Judged.TheVariants.{Agrees, Differs}
use Rattle.pfx_replay.proofs.FrameRuns.{frames_applied}
use Rattle.pfx_segment.specs.Reading.{views}
use Rattle.pfx_replay_audit.specs.Marks.{Gives}
use Rattle.pfx_replay_audit.proofs.block.judge_frames.Goals as goal

pub judge_from-requires : goal.judge_from-requires
judge_from-requires g c =
    let K = g.J.Job.kind in
    let s = c.args.state.now in
    let run = frames_applied K g.met.J.Job.laws s c.requires.0 (views c.args.frames.now) c.requires.1 in
    let read = ap (map plain) c.deref.ensures.value ∙ c.in_ok-records.ensures in
    (c.requires.0, ap (applied K s) read ∙ run)

pub returns-in-Differs-clause-gives : goal.returns-in-Differs-clause-gives
returns-in-Differs-clause-gives g c =
    let marks = map plain_of c.args.marks.now in
    let v = Differs c.in-Differs.number c.in-Differs.what in
    let read = ap (map plain) c.deref.ensures.value ∙ c.in_ok-records.ensures in
    subst (λ l. Gives g.J.Job.kind g.J.Units.unit marks c.args.state.now l v) read (rw c.in-Differs.is at c.in_ok-number.ensures.gives)

pub returns-in-Differs-clause-state : goal.returns-in-Differs-clause-state
returns-in-Differs-clause-state g c = c.in_ok-number.ensures.state

pub returns-clause-gives : goal.returns-clause-gives
returns-clause-gives g c =
    let marks = map plain_of c.args.marks.now in
    let v = Agrees c.in-Agrees.last in
    let read = ap (map plain) c.deref.ensures.value ∙ c.in_ok-records.ensures in
    subst (λ l. Gives g.J.Job.kind g.J.Units.unit marks c.args.state.now l v) read (rw c.in-Agrees.is at c.in_ok-number.ensures.gives)

pub returns-clause-state : goal.returns-clause-state
returns-clause-state g c = c.in_ok-number.ensures.state

pub returns-clause-told : goal.returns-clause-told
returns-clause-told g c =
    let read = ap (map plain) c.deref-in-Agrees.ensures.value ∙ c.in_ok-records.ensures in
    rw read at c.in_ok-see-in-Agrees.ensures
