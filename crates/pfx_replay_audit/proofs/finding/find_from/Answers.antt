use Rattle.std.proofs.Common.{rules, inl, inr, arith, ◌≤◌, ℕ, List, [], ◌∷◌, ◌++◌, All, Some}
use Rattle.pfx_log.specs.Logs.{Block, Log, block_of, with_block}
use Rattle.pfx_log.proofs.Looks.{failed_after, keeps_after, looks_then}
use Rattle.pfx_replay_audit.specs.Finding.{Has}
use Rattle.pfx_replay_audit.proofs.Found.{all_more}
use Rattle.pfx_replay_audit.proofs.finding.find_from.Goals as goal

pub returns-in_default : goal.returns-in_default
returns-in_default g c =
    let view = g.L.Disk.view in
    let a = view c.args.disk.now in
    let w = view c.walk.disk in
    let b = view c.read_block.new.disk in
    let looks = c.walk.invariant.looks in
    record {
      looks = looks_then a w b looks c.read_block.ensures.read.looks;
      device = search rules;
      exact = λ bytes kept log none begins.
          let more = c.walk.invariant.passed bytes kept log none begins in
          let ends = rw c.in_default.is at (c.in_ok-block.ensures.read.exact bytes (keeps_after bytes a w looks kept)) in
          (more.0, ends more.0 more.1, more.2);
    }

pub returns-then-number-block : goal.returns-then-number-block
returns-then-number-block g c =
    let view = g.L.Disk.view in
    let a = view c.args.disk.now in
    let w = view c.walk.disk in
    let b = view c.read_block.new.disk in
    let looks = c.walk.invariant.looks in
    record {
      looks = looks_then a w b looks c.read_block.ensures.read.looks;
      device = search rules;
      exact = λ bytes kept log none begins.
          let more = c.walk.invariant.passed bytes kept log none begins in
          let found = rw c.in-Some.is at (c.in_ok-block.ensures.read.exact bytes (keeps_after bytes a w looks kept)) in
          record { before = more.0; begins = found more.0 more.1; has = (c.if-block-number.true, c.if-number-block.true) };
    }

pub walk-preserved : goal.walk-preserved
walk-preserved g c =
    let view = g.L.Disk.view in
    let a = view c.args.disk.now in
    let w = view c.walk.disk in
    let b = view c.read_block.new.disk in
    let looks = c.walk.invariant.looks in
    let next = rw c.in-Some.is at c.in_ok-block.ensures.next in
    record {
      inside = next.1;
      looks = looks_then a w b looks c.read_block.ensures.read.looks;
      passed = λ bytes kept log none begins.
          let more = c.walk.invariant.passed bytes kept log none begins in
          let found = rw c.in-Some.is at (c.in_ok-block.ensures.read.exact bytes (keeps_after bytes a w looks kept)) in
          let block = c.in-Some.block in (
            with_block more.0 (block_of block.first block.last block.frames.items),
            found more.0 more.1,
            all_more (λ b. Has c.args.number b → ⊥) more.0.blocks (block_of block.first block.last block.frames.items) more.2
                (λ has.
                let low = has.0 in
                let high = has.1 in
                elim c.else-block-number.either [ inl x ↦ absurd (omega (arith, x, low)) | inr x ↦ absurd (omega (arith, x, high)) ]),
          );
    }
