use Rattle.std.proofs.Common.{inl, inr, refl, map, rules}
use Rattle.pfx_log.specs.Logs.{block_of, new_log}
use Rattle.pfx_log.proofs.Looks.{failed_after, keeps_after, looks_none, looks_then}
use Rattle.pfx_replay.specs.Stated.{plain_of}
use Rattle.pfx_replay_audit.specs.Watches.{Told}
use Rattle.pfx_replay_audit.proofs.Telling.{told_none}
use Rattle.pfx_replay_audit.proofs.Reading.{come_more, come_none, log_handed, unread, until_more}
use Rattle.pfx_replay_audit.specs.Reads.{of_blocks}
use Rattle.pfx_replay_audit.proofs.blocks.fold_blocks.Goals as goal

pub walk-init : goal.walk-init
walk-init g c = record {
  inside = c.requires.inside;
  looks = looks_none _;
  come = λ bytes kept version spelled before begins.
      (come_none g.J.Job.kind g.J.Units.unit (map plain_of c.args.marks.now) (new_log version spelled before) c.args.state bytes g.met.J.Job.laws c.args.first begins c.requires.met, told_none g.J.Job.kind g.met.J.Job.laws g.W.Watch.sees c.args.watch.now c.args.state);
}

pub returns-in_err-block : goal.returns-in_err-block
returns-in_err-block g c =
    let view = g.L.Disk.view in
    let a = view c.args.disk.now in
    let w = view c.walk.disk in
    let b = view c.read_block.new.disk in
    let looks = c.walk.invariant.looks in
    let e = c.in_err-block.field-0.0 in
    log_handed g.J.Job.kind g.J.Units.unit (map plain_of c.args.marks.now) (Told g.J.Job.kind g.W.Watch.sees c.args.watch.now c.walk.watch) c.args.first c.args.state a b e (looks_then a w b looks c.read_block.ensures.read.looks)
    (λ is. failed_after a w b looks (c.in_err-block.ensures.read.device is))
    (λ bytes kept version spelled before begins.
    let come = (c.walk.invariant.come bytes kept version spelled before begins).0 in
    let log = of_blocks (new_log version spelled before) come.blocks in
    inr (log, c.walk.place, come.begun.begins, c.in_err-block.ensures.read.exact bytes (keeps_after bytes a w looks kept) log come.begun.begins))
    c.from_residual.result c.from_residual.ensures.1

pub returns-in_default : goal.returns-in_default
returns-in_default g c =
    let view = g.L.Disk.view in
    let a = view c.args.disk.now in
    let w = view c.walk.disk in
    let b = view c.read_block.new.disk in
    let looks = c.walk.invariant.looks in
    record {
      looks = looks_then a w b looks c.read_block.ensures.read.looks;
      device = search rules;
      exact = λ bytes kept version spelled before begins.
          let come = (c.walk.invariant.come bytes kept version spelled before begins).0 in
          let log = of_blocks (new_log version spelled before) come.blocks in
          let ends = rw c.in_default.is at (c.in_ok-block.ensures.read.exact bytes (keeps_after bytes a w looks kept)) in (
            record {
              blocks = come.blocks;
              read = come.read;
              holds = ends log come.begun.begins;
              are = come.begun.are;
              agree = come.agree;
              state = come.state;
              end_is = come.begun.begins.end;
            },
            (c.walk.invariant.come bytes kept version spelled before begins).1,
          );
    }

pub returns-in_err-folded : goal.returns-in_err-folded
returns-in_err-folded g c =
    let view = g.L.Disk.view in
    let a = view c.args.disk.now in
    let w = view c.walk.disk in
    let b = view c.read_block.new.disk in
    log_handed g.J.Job.kind g.J.Units.unit (map plain_of c.args.marks.now) (Told g.J.Job.kind g.W.Watch.sees c.args.watch.now c.fold_block.new.watch) c.args.first c.args.state a b _ (looks_then a w b c.walk.invariant.looks c.read_block.ensures.read.looks)
    (λ is. cc) (λ bytes kept version spelled before begins. inl tt) c.from_residual-in_err-folded.result c.from_residual-in_err-folded.ensures.1

pub returns-in_default-2 : goal.returns-in_default-2
returns-in_default-2 g c =
    let view = g.L.Disk.view in
    let a = view c.args.disk.now in
    let w = view c.walk.disk in
    let b = view c.read_block.new.disk in
    let looks = c.walk.invariant.looks in
    let block = c.in-Some.block in
    let none = rw c.in_default-2.is at c.in_ok-folded.ensures in
    record {
      looks = looks_then a w b looks c.read_block.ensures.read.looks;
      device = λ is. cc;
      exact = λ bytes kept version spelled before begins.
          let come = (c.walk.invariant.come bytes kept version spelled before begins).0 in
          let log = of_blocks (new_log version spelled before) come.blocks in
          let found = rw c.in-Some.is at (c.in_ok-block.ensures.read.exact bytes (keeps_after bytes a w looks kept)) in
          unread g.J.Job.kind g.J.Units.unit (map plain_of c.args.marks.now) (new_log version spelled before) c.args.state bytes g.met.J.Job.laws c.walk.place c.walk.reached come
          (block_of block.first block.last block.frames.items) c.in-Some.next (found log come.begun.begins) c.walk.place.at refl none;
    }

pub returns-in-Differs : goal.returns-in-Differs
returns-in-Differs g c =
    let view = g.L.Disk.view in
    let a = view c.args.disk.now in
    let w = view c.walk.disk in
    let b = view c.read_block.new.disk in
    let looks = c.walk.invariant.looks in
    let block = c.in-Some.block in
    let first = rw c.in-Differs.is at (rw c.in-Some-2.is at c.in_ok-folded.ensures) in
    record {
      looks = looks_then a w b looks c.read_block.ensures.read.looks;
      device = tt;
      exact = λ bytes kept version spelled before begins.
          let come = (c.walk.invariant.come bytes kept version spelled before begins).0 in
          let log = of_blocks (new_log version spelled before) come.blocks in
          let found = rw c.in-Some.is at (c.in_ok-block.ensures.read.exact bytes (keeps_after bytes a w looks kept)) in
          until_more g.J.Job.kind g.J.Units.unit (map plain_of c.args.marks.now) (new_log version spelled before) c.args.state bytes g.met.J.Job.laws c.walk.place c.walk.reached come
          (block_of block.first block.last block.frames.items) c.in-Some.next (found log come.begun.begins) c.in-Differs.what c.in-Differs.number first.0 first.1 first.2 first.3;
    }

pub walk-preserved : goal.walk-preserved
walk-preserved g c =
    let view = g.L.Disk.view in
    let a = view c.args.disk.now in
    let w = view c.walk.disk in
    let b = view c.read_block.new.disk in
    let looks = c.walk.invariant.looks in
    let block = c.in-Some.block in
    let next = rw c.in-Some.is at c.in_ok-block.ensures.next in
    let more = rw c.in-Agrees.is at (rw c.in-Some-2.is at c.in_ok-folded.ensures) in
    record {
      inside = next.1;
      looks = looks_then a w b looks c.read_block.ensures.read.looks;
      come = λ bytes kept version spelled before begins.
          let come = (c.walk.invariant.come bytes kept version spelled before begins).0 in
          let log = of_blocks (new_log version spelled before) come.blocks in
          let found = rw c.in-Some.is at (c.in_ok-block.ensures.read.exact bytes (keeps_after bytes a w looks kept)) in
          come_more g.J.Job.kind g.J.Units.unit (map plain_of c.args.marks.now) (new_log version spelled before) c.args.state bytes g.met.J.Job.laws c.walk.place c.walk.reached come
          (block_of block.first block.last block.frames.items) c.in-Some.next (found log come.begun.begins) g.W.Watch.sees c.args.watch.now c.walk.watch c.fold_block.new.watch (c.walk.invariant.come bytes kept version spelled before begins).1 more.0 c.in-Agrees.led more.1 more.2 more.3 more.4;
    }
