use Rattle.std.proofs.Common.{◌+◌, ◌≤◌, length, arith, rules}
use Rattle.pfx_segment.specs.Segment.{Appended}
use Rattle.pfx_segment.proofs.Appends.{written, synced, gate_torn}
use Rattle.pfx_segment.proofs.Puts.{broken_1, within_1, broken_2, within_2, broken_3, within_3, broken_4, within_4, made_4}
use Rattle.pfx_segment.proofs.Making.{all_made, some_made}
use Rattle.pfx_segment.proofs.behind.put_behind.Goals as goal

pub returns-in_err-write_at-clause-leaves : goal.returns-in_err-write_at-clause-leaves
returns-in_err-write_at-clause-leaves g c honest =
    let view = g.D.Disk.view in
    let inside : c.args.gate + 1 ≤ length (view c.args.disk.now).contents = omega (arith, c.requires.inside honest) in
    written c.args.gate c.args.bytes.now (view c.args.disk.now) (view c.write_at.new.self) (view c.write_at.new.self) honest inside (c.write_at.ensures.leaves honest)

pub returns-in_err-sync-clause-leaves : goal.returns-in_err-sync-clause-leaves
returns-in_err-sync-clause-leaves g c honest =
    let view = g.D.Disk.view in
    let a = view c.args.disk.now in
    let b1 = view c.write_at.new.self in
    let b2 = view c.sync.new.self in
    let gate = c.args.gate in
    let frame = c.args.bytes.now in
    let inside : gate + 1 ≤ length a.contents = omega (arith, c.requires.inside honest) in
    let l1 = c.write_at.ensures.leaves honest in
    synced gate frame a b1 b2 honest inside (Appended gate frame) c.write_at.ensures.time.later (written gate frame a b1 b2 honest inside l1) (c.sync.ensures.leaves l1.honest)

pub returns-in_err-write_at-2-clause-leaves : goal.returns-in_err-write_at-2-clause-leaves
returns-in_err-write_at-2-clause-leaves g c honest =
    let view = g.D.Disk.view in
    let a = view c.args.disk.now in
    let b1 = view c.write_at.new.self in
    let b2 = view c.sync.new.self in
    let b3 = view c.write_at-2.new.self in
    let gate = c.args.gate in
    let frame = c.args.bytes.now in
    let inside : gate + 1 ≤ length a.contents = omega (arith, c.requires.inside honest) in
    let l1 = c.write_at.ensures.leaves honest in
    let l2 = c.sync.ensures.leaves l1.honest in
    let l3 = c.write_at-2.ensures.leaves l2.honest in
    gate_torn gate frame a b1 b2 honest inside b3 c.write_at.ensures.time.later c.sync.ensures.time.later l1 (c.in_ok-write_at.ensures.written honest) l2 (c.in_ok-sync.ensures.durable l1.honest) l3

pub returns-in_err-sync-2-clause-leaves : goal.returns-in_err-sync-2-clause-leaves
returns-in_err-sync-2-clause-leaves g c honest =
    let view = g.D.Disk.view in
    let a = view c.args.disk.now in
    let b1 = view c.write_at.new.self in
    let b2 = view c.sync.new.self in
    let b3 = view c.write_at-2.new.self in
    let b4 = view c.sync-2.new.self in
    let gate = c.args.gate in
    let frame = c.args.bytes.now in
    let inside : gate + 1 ≤ length a.contents = omega (arith, c.requires.inside honest) in
    let l1 = c.write_at.ensures.leaves honest in
    let l2 = c.sync.ensures.leaves l1.honest in
    let l3 = c.write_at-2.ensures.leaves l2.honest in
    let so_far = gate_torn gate frame a b1 b2 honest inside b3 c.write_at.ensures.time.later c.sync.ensures.time.later l1 (c.in_ok-write_at.ensures.written honest) l2 (c.in_ok-sync.ensures.durable l1.honest) l3 in
    synced gate frame a b3 b4 honest inside (Appended gate frame) (omega (arith, c.write_at.ensures.time.later, c.sync.ensures.time.later, c.write_at-2.ensures.time.later)) so_far (c.sync-2.ensures.leaves l3.honest)

pub returns-clause-leaves : goal.returns-clause-leaves
returns-clause-leaves g c honest =
    let view = g.D.Disk.view in
    let a = view c.args.disk.now in
    let b1 = view c.write_at.new.self in
    let b2 = view c.sync.new.self in
    let b3 = view c.write_at-2.new.self in
    let b4 = view c.sync-2.new.self in
    let gate = c.args.gate in
    let frame = c.args.bytes.now in
    let inside : gate + 1 ≤ length a.contents = omega (arith, c.requires.inside honest) in
    let l1 = c.write_at.ensures.leaves honest in
    let l2 = c.sync.ensures.leaves l1.honest in
    let l3 = c.write_at-2.ensures.leaves l2.honest in
    let so_far = gate_torn gate frame a b1 b2 honest inside b3 c.write_at.ensures.time.later c.sync.ensures.time.later l1 (c.in_ok-write_at.ensures.written honest) l2 (c.in_ok-sync.ensures.durable l1.honest) l3 in
    synced gate frame a b3 b4 honest inside (Appended gate frame) (omega (arith, c.write_at.ensures.time.later, c.sync.ensures.time.later, c.write_at-2.ensures.time.later)) so_far (c.sync-2.ensures.leaves l3.honest)

pub returns-in_err-write_at-clause-run : goal.returns-in_err-write_at-clause-run
returns-in_err-write_at-clause-run g c = record {
  call = record {
    takes = record { ok = search rules; later = search rules; at_most = search rules; no_fewer = search rules };
    failed = search rules;
    honest = search rules;
    longer = search rules;
  };
  makes =
      some_made _ _ _ c.from_residual.result _ c.from_residual.ensures.1 (λ honest.
      (let view = g.D.Disk.view in
      let a = view c.args.disk.now in
      let b = view c.write_at.new.self in
      let gate = c.args.gate in
      let bytes = c.args.bytes.now in
      let inside : gate + 1 ≤ length a.contents = omega (arith, c.requires.inside honest) in
      let l1 = c.write_at.ensures.leaves honest in
      let t1 = c.write_at.ensures.time.later in (
        broken_1 gate bytes a b inside t1 l1,
        within_1 gate bytes a b inside t1 l1,
      )));
  durable = search rules;
}

pub returns-in_err-sync-clause-run : goal.returns-in_err-sync-clause-run
returns-in_err-sync-clause-run g c = record {
  call = record {
    takes = record { ok = search rules; later = search rules; at_most = search rules; no_fewer = search rules };
    failed = search rules;
    honest = search rules;
    longer = search rules;
  };
  makes =
      some_made _ _ _ c.from_residual-in_err-sync.result _ c.from_residual-in_err-sync.ensures.1 (λ honest.
      (let view = g.D.Disk.view in
      let a = view c.args.disk.now in
      let b = view c.write_at.new.self in
      let gate = c.args.gate in
      let bytes = c.args.bytes.now in
      let inside : gate + 1 ≤ length a.contents = omega (arith, c.requires.inside honest) in
      let l1 = c.write_at.ensures.leaves honest in
      let t1 = c.write_at.ensures.time.later in
      let l2 = c.sync.ensures.leaves l1.honest in
      let t2 = c.sync.ensures.time.later in
      let w1 = c.in_ok-write_at.ensures.written honest in
      let m = view c.sync.new.self in (
        broken_2 gate bytes a b inside t1 l1 w1 m t2 l2,
        within_2 gate bytes a b inside t1 l1 w1 m t2 l2,
      )));
  durable = search rules;
}

pub returns-in_err-write_at-2-clause-run : goal.returns-in_err-write_at-2-clause-run
returns-in_err-write_at-2-clause-run g c = record {
  call = record {
    takes = record { ok = search rules; later = search rules; at_most = search rules; no_fewer = search rules };
    failed = search rules;
    honest = search rules;
    longer = search rules;
  };
  makes =
      some_made _ _ _ c.from_residual-in_err-write_at-2.result _ c.from_residual-in_err-write_at-2.ensures.1 (λ honest.
      (let view = g.D.Disk.view in
      let a = view c.args.disk.now in
      let b = view c.write_at.new.self in
      let gate = c.args.gate in
      let bytes = c.args.bytes.now in
      let inside : gate + 1 ≤ length a.contents = omega (arith, c.requires.inside honest) in
      let l1 = c.write_at.ensures.leaves honest in
      let t1 = c.write_at.ensures.time.later in
      let l2 = c.sync.ensures.leaves l1.honest in
      let t2 = c.sync.ensures.time.later in
      let w1 = c.in_ok-write_at.ensures.written honest in
      let m = view c.sync.new.self in
      let l3 = c.write_at-2.ensures.leaves l2.honest in
      let t3 = c.write_at-2.ensures.time.later in
      let only = c.in_ok-sync.ensures.durable l1.honest in
      let d = view c.write_at-2.new.self in (
        broken_3 gate bytes a b inside t1 l1 w1 m t2 l2 only d t3 l3,
        within_3 gate bytes a b inside t1 l1 w1 m t2 l2 only d t3 l3,
      )));
  durable = search rules;
}

pub returns-in_err-sync-2-clause-run : goal.returns-in_err-sync-2-clause-run
returns-in_err-sync-2-clause-run g c = record {
  call = record {
    takes = record { ok = search rules; later = search rules; at_most = search rules; no_fewer = search rules };
    failed = search rules;
    honest = search rules;
    longer = search rules;
  };
  makes =
      some_made _ _ _ c.from_residual-in_err-sync-2.result _ c.from_residual-in_err-sync-2.ensures.1 (λ honest.
      (let view = g.D.Disk.view in
      let a = view c.args.disk.now in
      let b = view c.write_at.new.self in
      let gate = c.args.gate in
      let bytes = c.args.bytes.now in
      let inside : gate + 1 ≤ length a.contents = omega (arith, c.requires.inside honest) in
      let l1 = c.write_at.ensures.leaves honest in
      let t1 = c.write_at.ensures.time.later in
      let l2 = c.sync.ensures.leaves l1.honest in
      let t2 = c.sync.ensures.time.later in
      let w1 = c.in_ok-write_at.ensures.written honest in
      let m = view c.sync.new.self in
      let l3 = c.write_at-2.ensures.leaves l2.honest in
      let t3 = c.write_at-2.ensures.time.later in
      let only = c.in_ok-sync.ensures.durable l1.honest in
      let d = view c.write_at-2.new.self in
      let l4 = c.sync-2.ensures.leaves l3.honest in
      let w2 = c.in_ok-write_at-2.ensures.written l2.honest in
      let e = view c.sync-2.new.self in (
        broken_4 gate bytes a b inside t1 l1 w1 m t2 l2 only d t3 l3 w2 e l4,
        within_4 gate bytes a b inside t1 l1 w1 m t2 l2 only d t3 l3 w2 e l4,
      )));
  durable = search rules;
}

pub returns-clause-run : goal.returns-clause-run
returns-clause-run g c = record {
  call = record {
    takes = record { ok = search rules; later = search rules; at_most = search rules; no_fewer = search rules };
    failed = search rules;
    honest = search rules;
    longer = search rules;
  };
  makes =
      all_made _ _ _ _ (λ honest.
      (let view = g.D.Disk.view in
      let a = view c.args.disk.now in
      let b = view c.write_at.new.self in
      let gate = c.args.gate in
      let bytes = c.args.bytes.now in
      let inside : gate + 1 ≤ length a.contents = omega (arith, c.requires.inside honest) in
      let l1 = c.write_at.ensures.leaves honest in
      let t1 = c.write_at.ensures.time.later in
      let l2 = c.sync.ensures.leaves l1.honest in
      let t2 = c.sync.ensures.time.later in
      let w1 = c.in_ok-write_at.ensures.written honest in
      let m = view c.sync.new.self in
      let l3 = c.write_at-2.ensures.leaves l2.honest in
      let t3 = c.write_at-2.ensures.time.later in
      let only = c.in_ok-sync.ensures.durable l1.honest in
      let d = view c.write_at-2.new.self in
      let l4 = c.sync-2.ensures.leaves l3.honest in
      let w2 = c.in_ok-write_at-2.ensures.written l2.honest in
      let e = view c.sync-2.new.self in (
        made_4 gate bytes a b inside t1 l1 w1 m t2 l2 only d t3 l3 w2 e l4 (c.in_ok-sync-2.ensures.durable l3.honest),
        within_4 gate bytes a b inside t1 l1 w1 m t2 l2 only d t3 l3 w2 e l4,
      )));
  durable = search rules;
}
