use Rattle.std.proofs.Common.{arith}
use Rattle.pfx_record.proofs.Places.{short, low_task, other_flag, no_state, short_state, without_state, with_state, length_without, length_with}
use Rattle.pfx_record.proofs.read_record.place_at.Goals as goal

pub returns-then-bytes-at-lt3-clause-none : goal.returns-then-bytes-at-lt3-clause-none
returns-then-bytes-at-lt3-clause-none g c place above small b =
    short g.J.Job.kind g.met.J.Job.laws c.args.bytes.now c.args.at c.if-bytes-at-lt3.true place b

pub returns-then-from-low-clause-none : goal.returns-then-from-low-clause-none
returns-then-from-low-clause-none g c place above small b =
    low_task g.J.Job.kind g.met.J.Job.laws c.args.bytes.now c.args.at c.u16_at-task.result c.args.low (omega arith) c.u16_at-task.ensures.begins (omega (arith, c.from.ensures)) place above small b

pub returns-then-bytes-at-eq0-clause-found : goal.returns-then-bytes-at-eq0-clause-found
returns-then-bytes-at-eq0-clause-found g c =
    without_state g.J.Job.kind g.met.J.Job.laws c.args.bytes.now c.args.at c.u16_at-task.result c.u16_at-task.ensures.begins (omega arith) c.if-bytes-at-eq0.true

pub returns-then-bytes-at-eq0-clause-long : goal.returns-then-bytes-at-eq0-clause-long
returns-then-bytes-at-eq0-clause-long g c = length_without g.J.Job.kind g.met.J.Job.laws c.args.bytes.now c.args.at c.u16_at-task.result

pub returns-then-bytes-at-ne1-clause-none : goal.returns-then-bytes-at-ne1-clause-none
returns-then-bytes-at-ne1-clause-none g c place above small b =
    other_flag g.J.Job.kind g.met.J.Job.laws c.args.bytes.now c.args.at c.if-bytes-at-eq0.false c.if-bytes-at-ne1.true place b

pub returns-then-bytes-at-lt-FULL_PLACE-clause-none : goal.returns-then-bytes-at-lt-FULL_PLACE-clause-none
returns-then-bytes-at-lt-FULL_PLACE-clause-none g c place above small b =
    no_state g.J.Job.kind g.met.J.Job.laws c.args.bytes.now c.args.at c.if-bytes-at-eq0.false (short_state g.J.Job.kind g.met.J.Job.laws c.args.bytes.now c.args.at c.if-bytes-at-lt-FULL_PLACE.true) place b

pub returns-in-None-clause-none : goal.returns-in-None-clause-none
returns-in-None-clause-none g c place above small b =
    no_state g.J.Job.kind g.met.J.Job.laws c.args.bytes.now c.args.at c.if-bytes-at-eq0.false c.in-None.ensures.none place b

pub returns-in-Some-clause-found : goal.returns-in-Some-clause-found
returns-in-Some-clause-found g c =
    with_state g.J.Job.kind g.met.J.Job.laws c.args.bytes.now c.args.at c.u16_at-task.result c.u16_at-task.ensures.begins (omega arith) c.if-bytes-at-ne1.false c.in-Some.state c.in-Some.ensures.found

pub returns-in-Some-clause-long : goal.returns-in-Some-clause-long
returns-in-Some-clause-long g c = length_with g.J.Job.kind g.met.J.Job.laws c.args.bytes.now c.args.at c.u16_at-task.result c.in-Some.state
