use Rattle.pfx_segment.proofs.Appends.{opens_synced, opens, opens_then}
use Rattle.std.proofs.Common.{[], ◌∷◌, ◌++◌, ◌≤◌, ◌∙◌, length, ap, sym, arith, rules}
use Rattle.pfx_disk.specs.Stop.{Sync, Write}
use Rattle.pfx_disk.specs.declared.gates.TheConstants.{GATE_OPEN}
use Rattle.pfx_disk.proofs.CallsMade.{write_made, write_broken, write_within, sync_made, sync_broken, sync_within, broken_first, within_first, made_then, broken_then, within_then}
use Rattle.pfx_segment.proofs.Making.{all_made, some_made}
use Rattle.pfx_segment.proofs.behind.open_gate.Goals as goal

pub returns-in_err-sync-clause-leaves : goal.returns-in_err-sync-clause-leaves
returns-in_err-sync-clause-leaves g c honest bytes inside stand =
    let view = g.D.Disk.view in
    opens_synced c.args.gate bytes (view c.args.disk.now) (view c.sync.new.self) honest inside stand c.sync.ensures.time.later (c.sync.ensures.leaves honest)

pub returns-in_err-write_at-clause-leaves : goal.returns-in_err-write_at-clause-leaves
returns-in_err-write_at-clause-leaves g c honest bytes inside stand =
    let view = g.D.Disk.view in
    let l1 = c.sync.ensures.leaves honest in
    opens c.args.gate bytes (view c.args.disk.now) (view c.sync.new.self) honest inside stand c.sync.ensures.time.later l1 (view c.write_at.new.self) (λ image is. c.in_ok-sync.ensures.durable honest image is ∙ sym l1.contents) (c.write_at.ensures.leaves l1.honest)

pub returns-in_err-sync-2-clause-leaves : goal.returns-in_err-sync-2-clause-leaves
returns-in_err-sync-2-clause-leaves g c honest bytes inside stand =
    let view = g.D.Disk.view in
    let l1 = c.sync.ensures.leaves honest in
    let l2 = c.write_at.ensures.leaves l1.honest in
    opens_then c.args.gate bytes (view c.args.disk.now) (view c.sync.new.self) honest inside stand c.sync.ensures.time.later l1 (view c.write_at.new.self) (view c.sync-2.new.self) (λ image is. c.in_ok-sync.ensures.durable honest image is ∙ sym l1.contents) c.write_at.ensures.time.later l2 (c.sync-2.ensures.leaves l2.honest)

pub returns-clause-leaves : goal.returns-clause-leaves
returns-clause-leaves g c honest bytes inside stand =
    let view = g.D.Disk.view in
    let l1 = c.sync.ensures.leaves honest in
    let l2 = c.write_at.ensures.leaves l1.honest in
    opens_then c.args.gate bytes (view c.args.disk.now) (view c.sync.new.self) honest inside stand c.sync.ensures.time.later l1 (view c.write_at.new.self) (view c.sync-2.new.self) (λ image is. c.in_ok-sync.ensures.durable honest image is ∙ sym l1.contents) c.write_at.ensures.time.later l2 (c.sync-2.ensures.leaves l2.honest)

pub returns-in_err-sync-clause-run : goal.returns-in_err-sync-clause-run
returns-in_err-sync-clause-run g c = record {
  call =
      let time = c.sync.ensures.time in
      record {
        takes = record {
          ok = search rules;
          later = time.later;
          at_most = omega (arith, time.once);
          no_fewer = time.no_fewer;
        };
        failed = search rules;
        honest = ((λ honest. (c.sync.ensures.leaves honest).honest), c.sync.ensures.honest);
        longer = λ honest. omega (arith, ap length (c.sync.ensures.leaves honest).contents);
      };
  makes =
      some_made _ _ _ c.from_residual.result _ c.from_residual.ensures.1 (λ honest.
      (let view = g.D.Disk.view in
      let a = view c.args.disk.now in
      let b = view c.sync.new.self in
      let W = Write c.args.gate (GATE_OPEN ∷ []) ∷ [] in
      let S = Sync ∷ [] in
      let l1 = c.sync.ensures.leaves honest in
      let t1 = c.sync.ensures.time.later in (
        broken_first S (W ++ S) a b (sync_broken a b l1),
        within_first S (W ++ S) a b (sync_within a b l1),
      )));
  durable = search rules;
}

pub returns-in_err-write_at-clause-run : goal.returns-in_err-write_at-clause-run
returns-in_err-write_at-clause-run g c = record {
  call = record {
    takes = record { ok = search rules; later = search rules; at_most = search rules; no_fewer = search rules };
    failed = search rules;
    honest = search rules;
    longer = search rules;
  };
  makes =
      some_made _ _ _ c.from_residual-in_err-write_at.result _ c.from_residual-in_err-write_at.ensures.1 (λ honest.
      (let view = g.D.Disk.view in
      let a = view c.args.disk.now in
      let b = view c.sync.new.self in
      let W = Write c.args.gate (GATE_OPEN ∷ []) ∷ [] in
      let S = Sync ∷ [] in
      let l1 = c.sync.ensures.leaves honest in
      let t1 = c.sync.ensures.time.later in
      let m = view c.write_at.new.self in
      let l2 = c.write_at.ensures.leaves l1.honest in
      let t2 = c.write_at.ensures.time.later in
      let w1 = sync_made a b l1 (c.in_ok-sync.ensures.durable honest) in
      let p1 = sync_within a b l1 in (
        broken_then S (W ++ S) a b m w1 (broken_first W S b m (write_broken b m c.args.gate (GATE_OPEN ∷ []) l2)),
        within_then S (W ++ S) a b m w1 t1 p1 (within_first W S b m (write_within b m c.args.gate (GATE_OPEN ∷ []) l2)),
      )));
  durable = search rules;
}

pub returns-in_err-sync-2-clause-run : goal.returns-in_err-sync-2-clause-run
returns-in_err-sync-2-clause-run g c = record {
  call = record {
    takes = record { ok = search rules; later = search rules; at_most = search rules; no_fewer = search rules };
    failed = search rules;
    honest = search rules;
    longer = search rules;
  };
  makes =
      some_made _ _ _ c.from_residual-in_err-sync-2.result _ c.from_residual-in_err-sync-2.ensures.1 (λ honest.
      (let view = g.D.Disk.view in
      let a = view c.args.disk.now in
      let b = view c.sync.new.self in
      let W = Write c.args.gate (GATE_OPEN ∷ []) ∷ [] in
      let S = Sync ∷ [] in
      let l1 = c.sync.ensures.leaves honest in
      let t1 = c.sync.ensures.time.later in
      let m = view c.write_at.new.self in
      let l2 = c.write_at.ensures.leaves l1.honest in
      let t2 = c.write_at.ensures.time.later in
      let w1 = sync_made a b l1 (c.in_ok-sync.ensures.durable honest) in
      let p1 = sync_within a b l1 in
      let e = view c.sync-2.new.self in
      let inside : c.args.gate ≤ length b.contents = omega (arith, c.requires.inside honest, ap length l1.contents) in
      let l3 = c.sync-2.ensures.leaves l2.honest in
      let w2 = made_then S W a b m w1 (write_made b m c.args.gate (GATE_OPEN ∷ []) l2 inside (c.in_ok-write_at.ensures.written l1.honest)) in
      let p2 = within_then S W a b m w1 t1 p1 (write_within b m c.args.gate (GATE_OPEN ∷ []) l2) in (
        broken_then (S ++ W) S a m e w2 (sync_broken m e l3),
        within_then (S ++ W) S a m e w2 (omega (arith, t1, t2)) p2 (sync_within m e l3),
      )));
  durable = search rules;
}

pub returns-clause-run : goal.returns-clause-run
returns-clause-run g c = record {
  call = record {
    takes = record { ok = search rules; later = search rules; at_most = search rules; no_fewer = search rules };
    failed = search rules;
    honest = search rules;
    longer = search rules;
  };
  makes =
      all_made _ _ _ _ (λ honest.
      (let view = g.D.Disk.view in
      let a = view c.args.disk.now in
      let b = view c.sync.new.self in
      let W = Write c.args.gate (GATE_OPEN ∷ []) ∷ [] in
      let S = Sync ∷ [] in
      let l1 = c.sync.ensures.leaves honest in
      let t1 = c.sync.ensures.time.later in
      let m = view c.write_at.new.self in
      let l2 = c.write_at.ensures.leaves l1.honest in
      let t2 = c.write_at.ensures.time.later in
      let w1 = sync_made a b l1 (c.in_ok-sync.ensures.durable honest) in
      let p1 = sync_within a b l1 in
      let e = view c.sync-2.new.self in
      let inside : c.args.gate ≤ length b.contents = omega (arith, c.requires.inside honest, ap length l1.contents) in
      let l3 = c.sync-2.ensures.leaves l2.honest in
      let w2 = made_then S W a b m w1 (write_made b m c.args.gate (GATE_OPEN ∷ []) l2 inside (c.in_ok-write_at.ensures.written l1.honest)) in
      let p2 = within_then S W a b m w1 t1 p1 (write_within b m c.args.gate (GATE_OPEN ∷ []) l2) in (
        made_then (S ++ W) S a m e w2 (sync_made m e l3 (c.in_ok-sync-2.ensures.durable l2.honest)),
        within_then (S ++ W) S a m e w2 (omega (arith, t1, t2)) p2 (sync_within m e l3),
      )));
  durable = search rules;
}
