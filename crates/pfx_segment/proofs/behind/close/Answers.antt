use Rattle.std.proofs.Common.{[], ◌∷◌, ◌≤◌, length, ap, sym, subst, arith, rules, Bool}
use Rattle.pfx_disk.specs.Stop.{Sync, Write, Look}
use Rattle.pfx_segment.specs.Acts.{close_acts}
use Rattle.pfx_disk.specs.CallsMade.{HasMade, HasBrokenOff, HasKeptTo}
use Rattle.pfx_disk.proofs.CallsMade.{write_made, write_broken, write_within, sync_made, sync_broken, sync_within, look_made, look_broken, look_within, broken_first, within_first, made_then, broken_then, within_then}
use Rattle.pfx_segment.proofs.Making.{all_made, some_made}
use Rattle.pfx_segment.proofs.behind.close.Goals as goal

pub returns-in_err-write_at-clause-run : goal.returns-in_err-write_at-clause-run
returns-in_err-write_at-clause-run g c = record {
  call = record {
    takes = record { ok = search rules; later = search rules; at_most = search rules; no_fewer = search rules };
    failed = search rules;
    honest = search rules;
    longer = search rules;
  };
  makes =
      some_made _ _ _ c.from_residual.result _ c.from_residual.ensures.1 (λ honest.
      (let view = g.D.Disk.view in
      let a = view c.args.disk.now in
      let b = view c.write_at.new.self in (
        subst (λ (o : Bool). HasBrokenOff (close_acts c.args.gate o) a b) (sym c.if-is_open.true)
            (broken_first (Write c.args.gate (0 ∷ []) ∷ []) (Sync ∷ []) a b (write_broken a b c.args.gate (0 ∷ []) (c.write_at.ensures.leaves honest))),
        subst (λ (o : Bool). HasKeptTo (close_acts c.args.gate o) a b) (sym c.if-is_open.true)
            (within_first (Write c.args.gate (0 ∷ []) ∷ []) (Sync ∷ []) a b (write_within a b c.args.gate (0 ∷ []) (c.write_at.ensures.leaves honest))),
      )));
  durable = search rules;
}

pub returns-in_err-sync-clause-run : goal.returns-in_err-sync-clause-run
returns-in_err-sync-clause-run g c = record {
  call = record {
    takes = record { ok = search rules; later = search rules; at_most = search rules; no_fewer = search rules };
    failed = search rules;
    honest = search rules;
    longer = search rules;
  };
  makes =
      some_made _ _ _ c.from_residual-in_err-sync.result _ c.from_residual-in_err-sync.ensures.1 (λ honest.
      (let view = g.D.Disk.view in
      let a = view c.args.disk.now in
      let b = view c.write_at.new.self in
      let e = view c.sync.new.self in
      let l1 = c.write_at.ensures.leaves honest in
      let inside : c.args.gate ≤ length a.contents = omega (arith, c.requires.inside honest) in (
        subst (λ (o : Bool). HasBrokenOff (close_acts c.args.gate o) a e) (sym c.if-is_open.true)
            (broken_then (Write c.args.gate (0 ∷ []) ∷ []) (Sync ∷ []) a b e (write_made a b c.args.gate (0 ∷ []) l1 inside (c.in_ok-write_at.ensures.written honest)) (sync_broken b e (c.sync.ensures.leaves l1.honest))),
        subst (λ (o : Bool). HasKeptTo (close_acts c.args.gate o) a e) (sym c.if-is_open.true)
            (within_then (Write c.args.gate (0 ∷ []) ∷ []) (Sync ∷ []) a b e (write_made a b c.args.gate (0 ∷ []) l1 inside (c.in_ok-write_at.ensures.written honest)) c.write_at.ensures.time.later
            (write_within a b c.args.gate (0 ∷ []) l1) (sync_within b e (c.sync.ensures.leaves l1.honest))),
      )));
  durable = search rules;
}

pub returns-then-is_open-clause-run : goal.returns-then-is_open-clause-run
returns-then-is_open-clause-run g c = record {
  call = record {
    takes = record { ok = search rules; later = search rules; at_most = search rules; no_fewer = search rules };
    failed = search rules;
    honest = search rules;
    longer = search rules;
  };
  makes =
      all_made _ _ _ _ (λ honest.
      (let view = g.D.Disk.view in
      let a = view c.args.disk.now in
      let b = view c.write_at.new.self in
      let e = view c.sync.new.self in
      let l1 = c.write_at.ensures.leaves honest in
      let inside : c.args.gate ≤ length a.contents = omega (arith, c.requires.inside honest) in (
        subst (λ (o : Bool). HasMade (close_acts c.args.gate o) a e) (sym c.if-is_open.true)
            (made_then (Write c.args.gate (0 ∷ []) ∷ []) (Sync ∷ []) a b e (write_made a b c.args.gate (0 ∷ []) l1 inside (c.in_ok-write_at.ensures.written honest)) (sync_made b e (c.sync.ensures.leaves l1.honest) (c.in_ok-sync.ensures.durable l1.honest))),
        subst (λ (o : Bool). HasKeptTo (close_acts c.args.gate o) a e) (sym c.if-is_open.true)
            (within_then (Write c.args.gate (0 ∷ []) ∷ []) (Sync ∷ []) a b e (write_made a b c.args.gate (0 ∷ []) l1 inside (c.in_ok-write_at.ensures.written honest)) c.write_at.ensures.time.later
            (write_within a b c.args.gate (0 ∷ []) l1) (sync_within b e (c.sync.ensures.leaves l1.honest))),
      )));
  durable = search rules;
}

pub returns-in_err-look_at-clause-run : goal.returns-in_err-look_at-clause-run
returns-in_err-look_at-clause-run g c = record {
  call =
      let time = c.look_at.ensures.time in
      record {
        takes = record {
          ok = search rules;
          later = time.later;
          at_most = omega (arith, time.once);
          no_fewer = time.no_fewer;
        };
        failed = search rules;
        honest = ((λ honest. (c.look_at.ensures.leaves honest).honest), c.look_at.ensures.honest);
        longer = λ honest. omega (arith, ap length (c.look_at.ensures.leaves honest).contents);
      };
  makes =
      some_made _ _ _ c.from_residual-in_err-look_at.result _ c.from_residual-in_err-look_at.ensures.1 (λ honest.
      (let view = g.D.Disk.view in
      let a = view c.args.disk.now in
      let b = view c.look_at.new.self in (
        subst (λ (o : Bool). HasBrokenOff (close_acts c.args.gate o) a b) (sym c.if-is_open.false)
            (broken_first (Look ∷ []) (Sync ∷ []) a b (look_broken a b (c.look_at.ensures.leaves honest))),
        subst (λ (o : Bool). HasKeptTo (close_acts c.args.gate o) a b) (sym c.if-is_open.false)
            (within_first (Look ∷ []) (Sync ∷ []) a b (look_within a b (c.look_at.ensures.leaves honest))),
      )));
  durable = search rules;
}

pub returns-in_err-sync-2-clause-run : goal.returns-in_err-sync-2-clause-run
returns-in_err-sync-2-clause-run g c = record {
  call = record {
    takes = record { ok = search rules; later = search rules; at_most = search rules; no_fewer = search rules };
    failed = search rules;
    honest = search rules;
    longer = search rules;
  };
  makes =
      some_made _ _ _ c.from_residual-in_err-sync-2.result _ c.from_residual-in_err-sync-2.ensures.1 (λ honest.
      (let view = g.D.Disk.view in
      let a = view c.args.disk.now in
      let b = view c.look_at.new.self in
      let e = view c.sync-2.new.self in
      let l1 = c.look_at.ensures.leaves honest in (
        subst (λ (o : Bool). HasBrokenOff (close_acts c.args.gate o) a e) (sym c.if-is_open.false)
            (broken_then (Look ∷ []) (Sync ∷ []) a b e (look_made a b l1) (sync_broken b e (c.sync-2.ensures.leaves l1.honest))),
        subst (λ (o : Bool). HasKeptTo (close_acts c.args.gate o) a e) (sym c.if-is_open.false)
            (within_then (Look ∷ []) (Sync ∷ []) a b e (look_made a b l1) c.look_at.ensures.time.later (look_within a b l1) (sync_within b e (c.sync-2.ensures.leaves l1.honest))),
      )));
  durable = search rules;
}

pub returns-clause-run : goal.returns-clause-run
returns-clause-run g c = record {
  call = record {
    takes = record { ok = search rules; later = search rules; at_most = search rules; no_fewer = search rules };
    failed = search rules;
    honest = search rules;
    longer = search rules;
  };
  makes =
      all_made _ _ _ _ (λ honest.
      (let view = g.D.Disk.view in
      let a = view c.args.disk.now in
      let b = view c.look_at.new.self in
      let e = view c.sync-2.new.self in
      let l1 = c.look_at.ensures.leaves honest in (
        subst (λ (o : Bool). HasMade (close_acts c.args.gate o) a e) (sym c.if-is_open.false)
            (made_then (Look ∷ []) (Sync ∷ []) a b e (look_made a b l1) (sync_made b e (c.sync-2.ensures.leaves l1.honest) (c.in_ok-sync-2.ensures.durable l1.honest))),
        subst (λ (o : Bool). HasKeptTo (close_acts c.args.gate o) a e) (sym c.if-is_open.false)
            (within_then (Look ∷ []) (Sync ∷ []) a b e (look_made a b l1) c.look_at.ensures.time.later (look_within a b l1) (sync_within b e (c.sync-2.ensures.leaves l1.honest))),
      )));
  durable = search rules;
}
