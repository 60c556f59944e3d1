use Rattle.std.proofs.Common.{rules, ◌∙◌, sym, arith}
use Rattle.pfx_log.proofs.Creations.{begins_synced, first_written, gate_alone, looked_at, was_empty}
use Rattle.pfx_log.proofs.creating.begin.Goals as goal

pub returns-in_err-len-clause-begun : goal.returns-in_err-len-clause-begun
returns-in_err-len-clause-begun g c = record {
  takes = record { ok = search rules; later = search rules; at_most = search rules; no_fewer = search rules };
  honest = search rules;
  leaves = λ honest. looked_at (g.D.Disk.view c.args.disk.now) (g.D.Disk.view c.len.new.self) (c.len.ensures.leaves honest);
  untouched = λ honest some. c.len.ensures.leaves honest;
  begun = search rules;
}

pub returns-in_err-write_at-clause-begun : goal.returns-in_err-write_at-clause-begun
returns-in_err-write_at-clause-begun g c =
    let view = g.D.Disk.view in
    record {
      takes = record { ok = search rules; later = search rules; at_most = search rules; no_fewer = search rules };
      honest = search rules;
      leaves = λ honest.
          let l0 = c.len.ensures.leaves honest in
          first_written (view c.args.disk.now) (view c.len.new.self) (view c.write_at.new.self) c.len.ensures.time.later l0 (c.write_at.ensures.leaves l0.honest);
      untouched = λ honest some. absurd (let n = c.in_ok-len.ensures.length honest in let no = c.if-branch-ne0.false in omega (arith, some, n, no));
      begun = search rules;
    }

pub returns-in_err-sync-clause-begun : goal.returns-in_err-sync-clause-begun
returns-in_err-sync-clause-begun g c =
    let view = g.D.Disk.view in
    record {
      takes = record { ok = search rules; later = search rules; at_most = search rules; no_fewer = search rules };
      honest = search rules;
      leaves = λ honest.
          let l0 = c.len.ensures.leaves honest in
          let l1 = c.write_at.ensures.leaves l0.honest in
          let t0 = c.len.ensures.time.later in
          let t1 = c.write_at.ensures.time.later in
          begins_synced (view c.args.disk.now) (view c.write_at.new.self) (view c.sync.new.self) (omega (arith, t0, t1))
          (first_written (view c.args.disk.now) (view c.len.new.self) (view c.write_at.new.self) t0 l0 l1) (c.sync.ensures.leaves l1.honest);
      untouched = λ honest some. absurd (let n = c.in_ok-len.ensures.length honest in let no = c.if-branch-ne0.false in omega (arith, some, n, no));
      begun = search rules;
    }

pub returns-clause-begun : goal.returns-clause-begun
returns-clause-begun g c =
    let view = g.D.Disk.view in
    record {
      takes = record { ok = search rules; later = search rules; at_most = search rules; no_fewer = search rules };
      honest = search rules;
      leaves = λ honest.
          let l0 = c.len.ensures.leaves honest in
          let l1 = c.write_at.ensures.leaves l0.honest in
          let t0 = c.len.ensures.time.later in
          let t1 = c.write_at.ensures.time.later in
          begins_synced (view c.args.disk.now) (view c.write_at.new.self) (view c.sync.new.self) (omega (arith, t0, t1))
          (first_written (view c.args.disk.now) (view c.len.new.self) (view c.write_at.new.self) t0 l0 l1) (c.sync.ensures.leaves l1.honest);
      untouched = λ honest some. absurd (let n = c.in_ok-len.ensures.length honest in let no = c.if-branch-ne0.false in omega (arith, some, n, no));
      begun = λ honest.
          let l0 = c.len.ensures.leaves honest in
          let l1 = c.write_at.ensures.leaves l0.honest in
          let l2 = c.sync.ensures.leaves l1.honest in
          let none = was_empty (view c.args.disk.now).contents _ (c.in_ok-len.ensures.length honest) c.if-branch-ne0.false in (
            none,
            l2.contents ∙ gate_alone (view c.len.new.self).contents (view c.write_at.new.self).contents (l0.contents ∙ none) (c.in_ok-write_at.ensures.written l0.honest),
            λ image is. c.in_ok-sync.ensures.durable l1.honest image is ∙ sym l2.contents,
          );
    }
