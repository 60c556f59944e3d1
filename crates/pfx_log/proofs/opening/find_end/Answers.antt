use Rattle.std.proofs.Common.{rules, inr}
use Rattle.pfx_log.specs.Logs.{block_of, with_block}
use Rattle.pfx_log.proofs.Handed.{walk_handed}
use Rattle.pfx_log.proofs.Looks.{failed_after, keeps_after, looks_then}
use Rattle.pfx_log.proofs.opening.find_end.Goals as goal

pub returns-in_err-next : goal.returns-in_err-next
returns-in_err-next g c =
    let view = g.D.Disk.view in
    let a = view c.args.disk.now in
    let w = view c.walk.disk in
    let b = view c.read_block.new.disk in
    let looks = c.walk.invariant.looks in
    let e = c.in_err-next.field-0.0 in
    walk_handed c.args.first a b e (looks_then a w b looks c.read_block.ensures.read.looks)
    (λ is. failed_after a w b looks (c.in_err-next.ensures.read.device is))
    (λ bytes kept log begins.
    let more = c.walk.invariant.begins bytes kept log begins in
    inr (more.0, c.walk.place, more.1, c.in_err-next.ensures.read.exact bytes (keeps_after bytes a w looks kept) more.0 more.1))
    c.from_residual.result c.from_residual.ensures.1

pub returns-in_default : goal.returns-in_default
returns-in_default g c =
    let view = g.D.Disk.view in
    let a = view c.args.disk.now in
    let w = view c.walk.disk in
    let b = view c.read_block.new.disk in
    let looks = c.walk.invariant.looks in
    record {
      looks = looks_then a w b looks c.read_block.ensures.read.looks;
      device = search rules;
      exact = λ bytes kept log begins.
          let more = c.walk.invariant.begins bytes kept log begins in
          let ends = rw c.in_default.is at (c.in_ok-next.ensures.read.exact bytes (keeps_after bytes a w looks kept)) in
          (more.0, ends more.0 more.1, more.1);
    }

pub walk-preserved : goal.walk-preserved
walk-preserved g c =
    let view = g.D.Disk.view in
    let a = view c.args.disk.now in
    let w = view c.walk.disk in
    let b = view c.read_block.new.disk in
    let looks = c.walk.invariant.looks in
    let next = rw c.in-Some.is at c.in_ok-next.ensures.next in
    record {
      inside = next.1;
      looks = looks_then a w b looks c.read_block.ensures.read.looks;
      begins = λ bytes kept log begins.
          let more = c.walk.invariant.begins bytes kept log begins in
          let found = rw c.in-Some.is at (c.in_ok-next.ensures.read.exact bytes (keeps_after bytes a w looks kept)) in
          let block = c.in-Some.field-0-0 in
          (with_block more.0 (block_of block.first block.last block.frames.items), found more.0 more.1);
    }
