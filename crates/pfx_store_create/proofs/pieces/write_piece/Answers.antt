use Rattle.std.proofs.Common.{◌≡◌, ◌<◌, min, ◌-◌, length, inl, arith, rules}
use Rattle.std.proofs.lemmas.Result.{on_ok_weaker}
use Rattle.pfx_disk.specs.Disk.{Torn}
use Rattle.pfx_disk.proofs.Steps.{leaves_as}
use Rattle.pfx_disk.proofs.GateLemmas.{closed_beside}
use Rattle.pfx_store_image.specs.NewFile.{new_file}
use Rattle.pfx_store_create.specs.Creating.{StaysClosed}
use Rattle.pfx_store_file.specs.declared.checkpoint.TheConstants.{PIECE}
use Rattle.pfx_store_create.proofs.NewBytes.{piece_written, piece_long, long_file}
use Rattle.pfx_store_create.proofs.pieces.write_piece.Goals as goal

pub returns : goal.returns
returns g c = record {
  call = search rules;
  leaves = λ honest.
      let n = length c.fill.new.out in
      leaves_as (Torn c.args.at n) StaysClosed (g.D.Disk.view c.args.disk.now) (g.D.Disk.view c.write_at.new.self)
      (λ x y torn closed. closed_beside 0 c.args.at n x y (inl c.requires.place.behind) torn closed)
      (c.write_at.ensures.leaves honest);
  written = λ honest L has before.
      let file = new_file L c.args.head.now c.args.body.now c.args.first.now in
      let many : length c.fill.new.out ≡ min PIECE (c.file_len.result - c.args.at) = search rules in
      let inside : c.args.at < length file = omega (arith, c.requires.place.inside, long_file L c.args.head.now c.args.body.now c.args.first.now c.args.segment c.requires.place.limits.number has) in
      on_ok_weaker c.write_at.result
      (λ is. piece_written file c.args.at PIECE c.fill.new.out (g.D.Disk.view c.args.disk.now).contents (g.D.Disk.view c.write_at.new.self).contents c.requires.place.behind inside
      (piece_long L c.args.head.now c.args.body.now c.args.first.now c.args.segment c.args.at PIECE c.file_len.result (length c.fill.new.out) c.requires.place.limits.number has c.file_len.ensures many) before (c.fill.ensures L has) is)
      (c.write_at.ensures.written honest);
}
