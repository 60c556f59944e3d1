use Rattle.std.proofs.Common.{◌<◌, length, refl, arith, rules}
use Rattle.pfx_disk.proofs.Steps.{written_stands}
use Rattle.std.proofs.Common.{◌∷◌}
use Rattle.pfx_disk.specs.declared.gates.TheConstants.{GATE_OPEN}
use Rattle.pfx_segment.proofs.Turns.{closed, prepared, longer}
use Rattle.pfx_segment.specs.Acts.{put_acts, close_acts}
use Rattle.pfx_disk.proofs.CallsMade.{broken_first, within_first, broken_then, within_then, made_then}
use Rattle.pfx_segment.proofs.Making.{all_made, some_made}
use Rattle.pfx_segment.proofs.behind.prepare.Goals as goal

pub returns-in_err-close-clause-leaves : goal.returns-in_err-close-clause-leaves
returns-in_err-close-clause-leaves g c honest shut =
    let view = g.D.Disk.view in
    closed c.args.gate c.args.bytes.now c.args.is_open (view c.args.disk.now) (view c.close.new.disk) (c.close.ensures.leaves honest)

pub put_behind-requires-clause-inside : goal.put_behind-requires-clause-inside
put_behind-requires-clause-inside g c mid =
    let view = g.D.Disk.view in
    let honest = c.close.ensures.run.call.honest.1 mid in
    omega (arith, c.requires.inside honest, longer c.args.gate c.args.bytes.now c.args.is_open (view c.args.disk.now) (view c.close.new.disk) (c.close.ensures.leaves honest))

pub returns-in_err-put_behind-clause-leaves : goal.returns-in_err-put_behind-clause-leaves
returns-in_err-put_behind-clause-leaves g c honest shut =
    let view = g.D.Disk.view in
    let first = c.close.ensures.leaves honest in
    let inside : c.args.gate < length (view c.args.disk.now).contents = omega (arith, c.requires.inside honest) in
    prepared c.args.gate c.args.bytes.now c.args.is_open (view c.args.disk.now) (view c.close.new.disk) (view c.put_behind.new.disk) honest c.close.ensures.run.call.takes.later inside
    (c.in_ok-close.ensures.closed honest shut) first (c.in_ok-close.ensures.run.durable honest) (c.put_behind.ensures.leaves first.honest)

pub returns-clause-leaves : goal.returns-clause-leaves
returns-clause-leaves g c honest shut =
    let view = g.D.Disk.view in
    let first = c.close.ensures.leaves honest in
    let inside : c.args.gate < length (view c.args.disk.now).contents = omega (arith, c.requires.inside honest) in
    prepared c.args.gate c.args.bytes.now c.args.is_open (view c.args.disk.now) (view c.close.new.disk) (view c.put_behind.new.disk) honest c.close.ensures.run.call.takes.later inside
    (c.in_ok-close.ensures.closed honest shut) first (c.in_ok-close.ensures.run.durable honest) (c.put_behind.ensures.leaves first.honest)

pub returns-clause-stands : goal.returns-clause-stands
returns-clause-stands g c honest =
    let view = g.D.Disk.view in
    let first = c.close.ensures.leaves honest in
    written_stands c.args.gate (GATE_OPEN ∷ c.args.bytes.now) (view c.close.new.disk).contents (view c.put_behind.new.disk).contents
    (omega (arith, c.requires.inside honest, longer c.args.gate c.args.bytes.now c.args.is_open (view c.args.disk.now) (view c.close.new.disk) first)) (c.in_ok-put_behind.ensures.written first.honest)

pub returns-in_err-close-clause-run : goal.returns-in_err-close-clause-run
returns-in_err-close-clause-run g c = record {
  call = record {
    takes = record { ok = search rules; later = search rules; at_most = search rules; no_fewer = search rules };
    failed = search rules;
    honest = search rules;
    longer = search rules;
  };
  makes =
      some_made _ _ _ c.from_residual.result _ c.from_residual.ensures.1 (λ honest.
      (let view = g.D.Disk.view in
      let a = view c.args.disk.now in
      let b = view c.close.new.disk in
      let one = close_acts c.args.gate c.args.is_open in
      let two = put_acts c.args.gate c.args.bytes.now in (
        broken_first one two a b (c.in_err-close.ensures.run.makes.broken_off honest refl),
        within_first one two a b (c.close.ensures.run.makes.between honest),
      )));
  durable = search rules;
}

pub returns-in_err-put_behind-clause-run : goal.returns-in_err-put_behind-clause-run
returns-in_err-put_behind-clause-run g c = record {
  call = record {
    takes = record { ok = search rules; later = search rules; at_most = search rules; no_fewer = search rules };
    failed = search rules;
    honest = search rules;
    longer = search rules;
  };
  makes =
      some_made _ _ _ c.from_residual-in_err-put_behind.result _ c.from_residual-in_err-put_behind.ensures.1 (λ honest.
      (let view = g.D.Disk.view in
      let a = view c.args.disk.now in
      let b = view c.close.new.disk in
      let one = close_acts c.args.gate c.args.is_open in
      let two = put_acts c.args.gate c.args.bytes.now in
      let e = view c.put_behind.new.disk in
      let mid = (c.close.ensures.leaves honest).honest in
      let went = c.in_ok-close.ensures.run.makes.made honest in (
        broken_then one two a b e went (c.in_err-put_behind.ensures.run.makes.broken_off mid refl),
        within_then one two a b e went c.close.ensures.run.call.takes.later (c.close.ensures.run.makes.between honest) (c.put_behind.ensures.run.makes.between mid),
      )));
  durable = search rules;
}

pub returns-clause-run : goal.returns-clause-run
returns-clause-run g c = record {
  call = record {
    takes = record { ok = search rules; later = search rules; at_most = search rules; no_fewer = search rules };
    failed = search rules;
    honest = search rules;
    longer = search rules;
  };
  makes =
      all_made _ _ _ _ (λ honest.
      (let view = g.D.Disk.view in
      let a = view c.args.disk.now in
      let b = view c.close.new.disk in
      let one = close_acts c.args.gate c.args.is_open in
      let two = put_acts c.args.gate c.args.bytes.now in
      let e = view c.put_behind.new.disk in
      let mid = (c.close.ensures.leaves honest).honest in
      let went = c.in_ok-close.ensures.run.makes.made honest in (
        made_then one two a b e went (c.in_ok-put_behind.ensures.run.makes.made mid),
        within_then one two a b e went c.close.ensures.run.call.takes.later (c.close.ensures.run.makes.between honest) (c.put_behind.ensures.run.makes.between mid),
      )));
  durable = search rules;
}
