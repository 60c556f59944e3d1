use Rattle.std.proofs.Common.{◌∙◌, ap, sym, subst, refl, map}
use Rattle.pfx_store_format.specs.Format.{format}
use Rattle.pfx_store_image.specs.Store.{Replays}
use Rattle.pfx_replay.specs.Stated.{plain_of}
use Rattle.pfx_replay.specs.Trails.{records_behind}
use Rattle.pfx_segment.specs.Reading.{views}
use Rattle.pfx_replay_audit.specs.Blocks.{IsSplit}
use Rattle.pfx_replay_audit.proofs.Splits.{one_split}
use Rattle.pfx_replay_audit.proofs.Folding.{led_is}
use Rattle.pfx_replay_audit.proofs.block.fold_block.Goals as goal

pub returns-in_default : goal.returns-in_default
returns-in_default g c records t read =
    let none = rw c.in_default.is at c.in_ok-frames.ensures in
    none read.frames (subst (λ l. IsSplit l read.frames) (sym c.deref.ensures.value) read.are)

pub returns-in_default-2 : goal.returns-in_default-2
returns-in_default-2 g c records t read =
    let K = format g.J.Job.kind in
    let s = c.args.state.now in
    let frames = views c.in-Some.frames.items in
    let split = subst (λ l. IsSplit l frames) c.deref.ensures.value (rw c.in-Some.is at c.in_ok-frames.ensures) in
    let same = one_split c.args.block.now.frames.items read.frames frames read.are split in
    let none = rw c.in_default-2.is at c.in_ok-led.ensures in
    none t (subst (λ l. Replays K s l t) (same ∙ ap views (sym c.deref-2.ensures.value)) read.leads) read.last

pub returns-in-Agrees : goal.returns-in-Agrees
returns-in-Agrees g c =
    let K = g.J.Job.kind in
    let s = c.args.state.now in
    let led = c.in-Some-2.led in
    let frames = views c.in-Some.frames.items in
    let split = subst (λ l. IsSplit l frames) c.deref.ensures.value (rw c.in-Some.is at c.in_ok-frames.ensures) in
    let found = rw c.in-Some-2.is at c.in_ok-led.ensures in
    let run = subst (λ l. Replays (format K) s (views l) led) c.deref-2.ensures.value found.0 in
    let read = ap (λ l. records_behind K s (views l)) c.deref-3.ensures.value in
    let judged = rw c.in-Agrees.is at c.in_ok-judge_frames.ensures.gives in
    let told = rw c.in-Agrees.is at c.in_ok-judge_frames.ensures.told in
    (records_behind K s frames, record { frames = frames; are = split; leads = run; last = found.1; records = refl }, rw read at judged.0, led_is K g.met.J.Job.laws g.J.Units.unit (map plain_of c.args.marks.now) s frames led run c.in_ok-judge_frames.ensures.state (rw read at judged.0), rw read at told)

pub returns : goal.returns
returns g c =
    let K = g.J.Job.kind in
    let s = c.args.state.now in
    let led = c.in-Some-2.led in
    let frames = views c.in-Some.frames.items in
    let split = subst (λ l. IsSplit l frames) c.deref.ensures.value (rw c.in-Some.is at c.in_ok-frames.ensures) in
    let found = rw c.in-Some-2.is at c.in_ok-led.ensures in
    let run = subst (λ l. Replays (format K) s (views l) led) c.deref-2.ensures.value found.0 in
    let read = ap (λ l. records_behind K s (views l)) c.deref-3.ensures.value in
    let judged = rw c.in-Differs.is at c.in_ok-judge_frames.ensures.gives in
    (records_behind K s frames, led, record { frames = frames; are = split; leads = run; last = found.1; records = refl }, rw read at judged)

pub judge_frames-requires : goal.judge_frames-requires
judge_frames-requires g c =
    let K = g.J.Job.kind in
    let s = c.args.state.now in
    let led = c.in-Some-2.led in
    let found = rw c.in-Some-2.is at c.in_ok-led.ensures in
    (led, subst (λ l. Replays (format K) s (views l) led) (c.deref-2.ensures.value ∙ sym c.deref-3.ensures.value) found.0)
