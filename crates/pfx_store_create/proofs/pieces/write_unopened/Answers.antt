use Rattle.std.proofs.Common.{rules}
use Rattle.pfx_store_create.proofs.Creations.{behind_begun}
use Rattle.pfx_store_create.proofs.pieces.write_unopened.Goals as goal

pub returns : goal.returns
returns g c = record {
  call = record {
    failed = search rules;
    takes = record { ok = search rules; later = search rules; at_most = search rules; no_fewer = search rules };
    honest = search rules;
  };
  leaves = λ honest.
      let view = g.D.Disk.view in
      let first = c.write_at.ensures.leaves honest in
      let second = c.sync.ensures.leaves first.honest in
      behind_begun (view c.args.disk.now) (view c.write_at.new.self) (view c.sync.new.self) (view c.write_pieces.new.disk) honest (c.requires.holds honest) c.write_at.ensures.time.later c.sync.ensures.time.later
      first (c.in_ok-write_at.ensures.written honest) second (c.in_ok-sync.ensures.durable first.honest) (c.write_pieces.ensures.leaves second.honest);
  written = search rules;
}
