use Rattle.std.proofs.Common.{rules, ◌≤◌, ◌<◌, ◌+◌, ◌*◌, ◌∙◌, arith}
use Rattle.pfx_store_image.specs.NewFile.{new_file}
use Rattle.pfx_store_create.specs.Creating.{len_of, unopened}
use Rattle.pfx_store_file.specs.declared.checkpoint.TheConstants.{PIECE}
use Rattle.pfx_store_create.proofs.NewBytes.{some_layout, long_so_far, whole_at_last, next_piece}
use Rattle.pfx_store_create.proofs.Creations.{stays_then}
use Rattle.pfx_store_create.proofs.pieces.write_pieces.Goals as goal

pub write_piece-requires : goal.write_piece-requires
write_piece-requires g c = record {
  place = record { limits = c.requires.limits; behind = search rules; inside = search rules };
  end = λ now.
      let inv = c.loop-i.invariant in
      let some = some_layout c.args.head.now c.args.body.now c.args.segment c.requires.limits.room in
      let inside : 1 + c.loop-i.i * 4096 < len_of c.args.head.now c.args.body.now c.args.segment = search rules in
      long_so_far some.0 c.args.head.now c.args.body.now c.args.first.now c.args.segment (1 + c.loop-i.i * 4096) (g.D.Disk.view c.loop-i.disk).contents c.requires.limits.number some.1 inside (inv.written (inv.honest now) some.0 some.1);
}

pub returns-in_err-write_piece : goal.returns-in_err-write_piece
returns-in_err-write_piece g c = record {
  call = record {
    failed = search rules;
    takes = record { ok = search rules; later = search rules; at_most = search rules; no_fewer = search rules };
    honest = search rules;
  };
  leaves = λ honest.
      let view = g.D.Disk.view in
      let so_far = c.loop-i.invariant.leaves honest in
      stays_then (view c.args.disk.now) (view c.loop-i.disk) (view c.write_piece.new.disk) (omega (arith, c.loop-i.invariant.clock)) so_far (c.write_piece.ensures.leaves so_far.honest);
  written = search rules;
}

pub loop-i-preserved : goal.loop-i-preserved
loop-i-preserved g c =
    let view = g.D.Disk.view in
    let inv = c.loop-i.invariant in
    record {
      clock = search rules;
      failures = search rules;
      honest = search rules;
      leaves = λ honest. let so_far = inv.leaves honest in stays_then (view c.args.disk.now) (view c.loop-i.disk) (view c.write_piece.new.disk) (omega (arith, inv.clock)) so_far (c.write_piece.ensures.leaves so_far.honest);
      written = λ honest L has. next_piece (unopened (new_file L c.args.head.now c.args.body.now c.args.first.now)) (view c.write_piece.new.disk).contents c.loop-i.i PIECE
          (c.in_ok-write_piece.ensures.written (inv.leaves honest).honest L has (inv.written honest L has));
    }

pub returns : goal.returns
returns g c = record {
  call = record {
    failed = search rules;
    takes = record { ok = search rules; later = search rules; at_most = search rules; no_fewer = search rules };
    honest = search rules;
  };
  leaves = search rules;
  written = λ honest L has.
      let past : len_of c.args.head.now c.args.body.now c.args.segment ≤ 1 + c.loop-i.i * 4096 = search rules in
      c.loop-i.invariant.written honest L has ∙ whole_at_last L c.args.head.now c.args.body.now c.args.first.now c.args.segment (1 + c.loop-i.i * 4096) c.requires.limits.number has past;
}
