use Rattle.std.proofs.Common.{◌≡◌, ◌+◌, ◌*◌, refl, arith}
use Rattle.pfx_store_image.specs.Layout.{Layout}
use Rattle.pfx_store_create.proofs.file.new_places.Goals as goal

pub returns : goal.returns
returns c =
    let sizes = c.args.sizes in
    let L : Layout = record { head = sizes.head; body = sizes.body; segment = sizes.segment; room = sizes.room } in
    let first : c.segment_at-first.result ≡ sizes.head + 2 * (1 + sizes.body) = c.segment_at-first.ensures.at L (record { head = refl; body = refl; segment = refl }) in
    record {
      head = refl;
      body = refl;
      segment_len = refl;
      area = refl;
      segment = refl;
      checkpoint = refl;
      gate = omega (arith, first);
      end = omega (arith, first);
      area_open = refl;
      segment_open = refl;
    }
